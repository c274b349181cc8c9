-- How the code's `Tx` holds what specs/Tx.antt speaks of, and the invariant of its states. Assumes nothing.
use Rattle.refusal.specs.declared.Refusal.{Refusal}
use Rattle.std.specs.Prelude.{ℕ, ◌+◌, ◌*◌, ◌≤◌, ◌≡◌, Bool, List, Float, Result, Ok}
use Rattle.modulation.specs.Bits.{BitsHeld}
use Rattle.resampling.specs.ResampleRep.{state_of}
use Rattle.resampling.specs.declared.resample.Resampler.{Resampler}
use Rattle.bell103.specs.declared.TonePair.{TonePair}
use Rattle.modulation.specs.declared.modulate.Wave.{Wave}
pub use Rattle.modulation.specs.Fed.{Fed}
use Rattle.modulation.specs.Tx.{Sender, sender, filling, filled}
use Rattle.refusal.specs.Refusals.{dsp_rate}
use Rattle.modulation.specs.declared.tx.Tx.{Tx}
use Rattle.modulation.specs.declared.tx.Filled.{Filled}
use Rattle.modulation.specs.Modulator.{Modulator, modulator}
use Rattle.modulation.specs.ModulatorRep.{keyer_of, pending_in, Rising, PendingHeld}

-- what `Tx` is in the definitions
unfoldable pub modulator_of : Tx → Modulator
modulator_of t =
    modulator t.rate t.tones (keyer_of t.bits t.wave) (state_of t.resampler) (pending_in t.pending t.from t.upto) t.amplitude

unfoldable pub sender_of : Tx → Sender
sender_of t = sender (modulator_of t) t.served

-- what each value of the type keeps (proofs/QueueingLaws.antt, tx-sound-of). For each sample that it gave, at most 2,050 went into the resampler
pub record TxSound (t : Tx) : Type 0 where
  pub rising : Rising t.rate t.resampler
  pub bits : BitsHeld t.bits t.wave.head t.wave.waiting
  pub pending : PendingHeld t.pending t.from t.upto
  pub fed : Fed 0 (2050 * t.served) (state_of t.resampler)
  pub few : t.served ≤ 4294967296

-- a slice of n places filled whole, and in how many passes
pub record FillsWhole (t : Tx) (n : ℕ) (out : List Float) (answer : Result Unit Refusal) (passes : ℕ) (t' : Tx) : Type 0 where
  pub accepted : answer ≡ Ok tt
  pub is : filling out (modulator_of t') passes ≡ filled (modulator_of t) n
  pub few : passes ≤ n + 2
  pub served : t'.served ≡ t.served + n

-- the modulator of a sender with this wave and resampler, and with what is pending
abbrev pub after : Tx → Wave → Resampler → List Float → ℕ → ℕ → Modulator
after t w r pending from upto =
    modulator t.rate t.tones (keyer_of t.bits w) (state_of r) (pending_in pending from upto) t.amplitude

-- what moved while a slice of n places was filled whole, and in how many passes
pub record Fills (t : Tx) (n : ℕ) (out pending : List Float) (w : Wave) (r : Resampler) (from upto passes : ℕ) : Type 0 where
  pub is : filling out (after t w r pending from upto) passes ≡ filled (modulator_of t) n
  pub few : passes ≤ n + 2
  pub rising : Rising t.rate r
  pub held : BitsHeld t.bits w.head w.waiting
  pub pending_held : PendingHeld pending from upto
  pub fed : Fed 0 (2050 * (t.served + n)) (state_of r)

-- ---- a slice at 8,000, where the resampler has no part
-- what fills it
pub record Parts : Type 0 where
  pub bits : List Bool
  pub tones : TonePair
  pub wave : Wave
  pub amplitude : Float
  pub pending : List Float
  pub from : ℕ
  pub upto : ℕ

abbrev pub parts_for : List Bool → TonePair → Wave → Float → List Float → ℕ → ℕ → Parts
parts_for b t w a p from upto = record { bits = b; tones = t; wave = w; amplitude = a; pending = p; from = from; upto = upto }

abbrev pub parts_of : Tx → Parts
parts_of t = parts_for t.bits t.tones t.wave t.amplitude t.pending t.from t.upto

-- a slice of n places filled whole for each sender at 8,000 that has these parts, whatever its resampler holds
pub record FillsPlaces (p : Parts) (n : ℕ) (out pending : List Float) (f : Filled) : Type 0 where
  pub whole : (t : Tx) → p ≡ parts_of t → t.rate ≡ dsp_rate → Fills t n out pending f.wave t.resampler f.from f.upto f.passes

-- the same, of parts one by one
abbrev pub FillsBy : List Bool → TonePair → Wave → Float → List Float → ℕ → ℕ → ℕ → List Float → List Float → Filled → Type 0
FillsBy b t w a p from upto n out pending f = FillsPlaces (parts_for b t w a p from upto) n out pending f
