-- The sender (tx.rs): bits to tones at 8,000 Hz, these to samples at the device's rate. What waits is a list here; how the code holds it
-- stands in specs/TxRep.antt. Assumes nothing.
use Rattle.std.specs.Prelude.{ℕ, zero, suc, ◌+◌, ◌-◌, Bool, true, false, not, ◌&&◌, List, [], ◌∷◌, ◌++◌, ltb, length, Float}
use Rattle.std.specs.Float.{binary32}
use Rattle.std.specs.Float.Ieee.{of_bits}
use Rattle.numeric.specs.F64.{◌≤ᶠ◌, whole, zero64, one64}
use Rattle.std.specs.Prelude.{if◌then◌else◌}
use Rattle.numeric.specs.Counts.{samples_for_bits}
use Rattle.refusal.specs.Refusals.{Reply, given, refused, first, rate_refused, dsp_rate}
use Rattle.resampling.specs.Resample.{fresh}
use Rattle.bell103.specs.Roles.{tones_of}
use Rattle.modulation.specs.Nco.{nco_new}
use Rattle.bell103.specs.declared.Role.{Role}
use Rattle.modulation.specs.Tone.{keyer}
use Rattle.modulation.specs.Modulator.{Modulator, modulator, Passed, handed, pass}

-- the samples that passes handed over, the modulator, and how many passes these were
pub record Filling : Type 0 where
  pub samples : List Float
  pub after : Modulator
  pub passes : ℕ

abbrev pub filling : List Float → Modulator → ℕ → Filling
filling xs m n = record { samples = xs; after = m; passes = n }

-- this pass, and then others
abbrev pub pass_then : Passed → Filling → Filling
pass_then p q = filling (p.samples ++ q.samples) q.after (1 + q.passes)

-- passes while places are unwritten, n at most
unfoldable pub passes : ℕ → Modulator → ℕ → Filling
passes zero m r = filling [] m 0
passes (suc n) m zero = filling [] m 0
passes (suc n) m (suc r) =
    let p = pass m (suc r) in
    pass_then p (passes n p.after (suc r - length p.samples))

-- a slice of n places: first what is pending, which is a pass too, then batches, `most` of them at most
abbrev pub filled_by : ℕ → Modulator → ℕ → Filling
filled_by most m n =
    let p = handed m n in
    pass_then p (passes most p.after (n - length p.samples))

-- "passes ≤ length + 2"
unfoldable pub filled : Modulator → ℕ → Filling
filled m n = filled_by (n + 1) m n

-- ---- the sender: what sounds, and the number of samples that it gave
pub record Sender : Type 0 where
  pub modulator : Modulator
  pub served : ℕ

abbrev pub sender : Modulator → ℕ → Sender
sender m n = record { modulator = m; served = n }

-- 1.0, full scale
abbrev pub full_scale : Float
full_scale = of_bits binary32 0x3F80_0000

-- "idle holds mark", and nothing waits
unfoldable pub fresh_modulator : ℕ → Role → Modulator
fresh_modulator rate role =
    modulator rate (tones_of role) (keyer (nco_new (tones_of role).mark (whole dsp_rate)) zero64 true []) (fresh dsp_rate rate) [] full_scale

abbrev pub fresh_sender : ℕ → Role → Sender
fresh_sender rate role = sender (fresh_modulator rate role) 0

-- ---- `new`
pub record Made : Type 0 where
  pub answer : Reply Unit
  pub state : Sender

abbrev pub made : Reply Unit → Sender → Made
made a s = record { answer = a; state = s }

-- refused 1 it gives a state all the same, the fresh one at 8,000
unfoldable pub new_of : ℕ → Role → Made
new_of rate role = if rate_refused rate then made (refused 1) (fresh_sender dsp_rate role) else made (given tt) (fresh_sender rate role)

-- ---- `read`
-- of n samples, where so many were given: "3 more than 1,024 samples. 31 the call would pass 4,294,967,296 samples for this sender"
unfoldable pub read_refused : ℕ → ℕ → ℕ
read_refused served n = first (ltb 1024 n) 3 (first (ltb 4294967296 (served + n)) 31 0)

-- the answer, in how many passes the slice was filled, the sender, and the slice
pub record Reading : Type 0 where
  pub answer : Reply Unit
  pub passes : ℕ
  pub state : Sender
  pub out : List Float

abbrev pub reading : Reply Unit → ℕ → Sender → List Float → Reading
reading a n s o = record { answer = a; passes = n; state = s; out = o }

-- "A refused call returns its number alone and leaves state and buffers untouched": no pass
abbrev pub unless_refused : ℕ → Sender → List Float → Reading → Reading
unless_refused zero s out accepted = accepted
unless_refused (suc k) s out accepted = reading (refused (suc k)) 0 s out

-- an accepted read fills the slice whole
abbrev pub filled_for : Sender → ℕ → Reading
filled_for s n =
    let p = filled s.modulator n in
    reading (given tt) p.passes (sender p.after (s.served + n)) p.samples

unfoldable pub read_of : Sender → List Float → Reading
read_of s out = unless_refused (read_refused s.served (length out)) s out (filled_for s (length out))

-- ---- `set_amplitude`
pub record Adjusted : Type 0 where
  pub answer : Reply Unit
  pub state : Sender

abbrev pub adjusted : Reply Unit → Sender → Adjusted
adjusted a s = record { answer = a; state = s }

-- "6 amplitude not in 0 to 1". A NaN fails both tests; -0.0 equals 0.0 and passes
unfoldable pub amplitude_refused : Float → Bool
amplitude_refused a = not (zero64 ≤ᶠ a && a ≤ᶠ one64)

abbrev pub at_amplitude : Modulator → Float → Modulator
at_amplitude m a = modulator m.rate m.tones m.keyer m.resampler m.pending a

-- samples that are pending keep the scale that they were made at
unfoldable pub amplitude_of : Sender → Float → Adjusted
amplitude_of s a =
    if amplitude_refused a then adjusted (refused 6) s else adjusted (given tt) (sender (at_amplitude s.modulator a) s.served)

-- ---- `pending`: whether bits wait
abbrev pub bits_wait : List Bool → Bool
bits_wait [] = false
bits_wait (b ∷ bs) = true

abbrev pub pending_of : Sender → Bool
pending_of s = bits_wait s.modulator.keyer.bits

-- ---- `samples_for_bits`: "for n ≤ 1,048,576", and "7 n too large". numeric's `samples-for-bits-is` proves it equal to the Rust's floats
unfoldable pub duration_of : Sender → ℕ → Reply ℕ
duration_of s n = if ltb 1048576 n then refused 7 else given (samples_for_bits n s.modulator.rate)
