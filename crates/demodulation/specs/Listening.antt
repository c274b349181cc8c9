-- A list of samples heard into lent codes. Assumes nothing.
use Rattle.std.specs.Prelude.{ℕ, ◌+◌, ◌≤◌, ◌≡◌, List, ◌++◌, length, drop, Float}
use Rattle.happenings.specs.Codes.{most_steps, most_codes, Codes, heard_in}
use Rattle.happenings.specs.declared.happening.Happening.{Happening}
use Rattle.demodulation.specs.Demod.{hearing}
use Rattle.demodulation.specs.DemodRep.{demodulator_of}
use Rattle.demodulation.specs.declared.demod.Demodulator.{Demodulator}
use Rattle.refusal.specs.declared.Counting.{Counting}

-- behind the first n of an array come these happenings; m is their number together, and what is behind them is as it was
pub record Put (n : ℕ) (before : List ℕ) (hs : List Happening) (m : ℕ) (after : List ℕ) : Type 0 where
  pub waits : heard_in m after ≡ heard_in n before ++ hs
  pub count : m ≡ n + length hs
  pub rest : drop m after ≡ drop m before
  pub places : Codes after

-- what hearing samples asks: room for what may happen, two at a step
pub record Hearable (xs : List Float) (codes : List ℕ) : Type 0 where
  pub places : Codes codes
  pub few : length xs ≤ most_steps

-- samples at 8,000 Hz heard: the demodulator, and what happened, in order, as the first codes of an array
pub record HearsInto (d : Demodulator) (xs : List Float) (codes : List ℕ) (r : Counting Demodulator) (codes' : List ℕ) : Type 0 where
  pub after : demodulator_of r.state ≡ (hearing (demodulator_of d) xs).after
  pub heard : heard_in r.count codes' ≡ (hearing (demodulator_of d) xs).happenings
  pub count : r.count ≡ length (hearing (demodulator_of d) xs).happenings
  pub few : r.count ≤ most_codes
  pub rest : drop r.count codes' ≡ drop r.count codes
  pub places : Codes codes'
