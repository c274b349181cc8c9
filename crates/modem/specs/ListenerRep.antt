-- How the code's `Listener` holds what specs/Listener.antt speaks of, the invariant of its states, and what its calls do. Assumes nothing.
use Rattle.std.specs.Prelude.{ℕ, ◌+◌, ◌*◌, ◌≤◌, ◌≡◌, List, length, drop, Float}
use Rattle.refusal.specs.Refusals.{reply_in, first, reply_of, rate_refused}
use Rattle.framing.specs.Framing.{held}
use Rattle.framing.specs.declared.frame.Deframer.{Deframer}
use Rattle.happenings.specs.Codes.{most_codes, Codes, heard_in}
use Rattle.resampling.specs.ResampleRep.{state_of, Sound}
use Rattle.demodulation.specs.DemodRep.{demodulator_of, DemodSound}
use Rattle.modem.specs.Listener as plain
use Rattle.bell103.specs.declared.Role.{Role}
use Rattle.demodulation.specs.declared.kind.Kind.{Kind}
use Rattle.modem.specs.declared.listener.Listener.{Listener}
use Rattle.refusal.specs.declared.Answered.{Answered}
use Rattle.modem.specs.declared.listener.Listened.{Listened}

-- what a `Listener` is in the definitions, beside the number of samples accepted
unfoldable pub demod_of : Listener → plain.Demod
demod_of l = plain.demod (state_of l.resampler) (demodulator_of l.demod)

-- ten for each error counted, and the bits of a byte begun, are at most three for each sample accepted: a bad stop takes ten bits, and a sample
-- makes three steps at the most. So the count never comes to 4,294,967,295, where it would hold
unfoldable pub FewErrors : Deframer → ℕ → Type 0
FewErrors d accepted = 10 * d.errors + held d ≤ 3 * accepted

-- what each value of the type keeps (proofs/RxCalls.antt, listener-sound-of)
pub record ListenerSound (l : Listener) : Type 0 where
  pub resampler : Sound l.resampler
  pub to_8000 : l.resampler.dst_rate ≡ 8000
  pub demod : DemodSound l.demod
  pub count : l.accepted ≤ 4294967296
  pub errors : FewErrors l.demod.core.deframer l.accepted

-- ---- what the calls do
-- a fresh one on an admitted rate
pub record Fresh (kind : Kind) (rate : ℕ) (role : Role) (l : Listener) : Type 0 where
  pub demod : demod_of l ≡ plain.fresh_demod kind rate role
  pub accepted : l.accepted ≡ 0

-- `new`; refused 1 it gives the fresh one at 8,000
pub record Opens (kind : Kind) (rate : ℕ) (role : Role) (r : Answered Listener Unit) : Type 0 where
  pub answer : reply_in r.answer ≡ reply_of (first (rate_refused rate) 1 0)
  pub fresh : Fresh kind (plain.admitted rate) role r.state

-- samples that no check refuses, and room for what may happen
pub record Fitting (l : Listener) (xs : List Float) (codes : List ℕ) : Type 0 where
  pub few : length xs ≤ 1024
  pub end : l.accepted + length xs ≤ 4294967296
  pub places : Codes codes

-- samples accepted: the listener after them, and all that happened, in order, as the first n codes; those behind are as they were
pub record Takes (l : Listener) (xs : List Float) (before : List ℕ) (r : Listener) (n : ℕ) (codes : List ℕ) : Type 0 where
  pub demod : demod_of r ≡ (plain.heard_by (demod_of l) xs).after
  pub heard : heard_in n codes ≡ (plain.heard_by (demod_of l) xs).happenings
  pub count : n ≡ length (plain.heard_by (demod_of l) xs).happenings
  pub few : n ≤ most_codes
  pub rest : drop n codes ≡ drop n before
  pub places : Codes codes
  pub accepted : r.accepted ≡ l.accepted + length xs

-- nothing changed
pub record Same (l : Listener) (before : List ℕ) (r : Listened) (codes : List ℕ) : Type 0 where
  pub state : r.state ≡ l
  pub count : r.count ≡ 0
  pub untouched : codes ≡ before

-- `hear`: 3, 4 or 31, and nothing changed; or the samples are accepted
pub record Hears (l : Listener) (xs : List Float) (before : List ℕ) (r : Listened) (codes : List ℕ) : Type 0 where
  pub answer : reply_in r.answer ≡ reply_of (plain.samples_refused xs l.accepted)
  pub taken : plain.samples_refused xs l.accepted ≡ 0 → Takes l xs before r.state r.count codes
  pub same : (plain.samples_refused xs l.accepted ≡ 0 → ⊥) → Same l before r codes
