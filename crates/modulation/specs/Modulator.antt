-- The modulator (tx.rs, `read`): tones at 8,000 Hz to samples at the device's rate, pass by pass. What waits is a list here; how the code
-- holds it stands in specs/ModulatorRep.antt. Assumes nothing.
use Rattle.std.specs.Prelude.{ℕ, List, map, take, drop, Float}
use Rattle.std.specs.Float.{binary32}
use Rattle.std.specs.Float.Ieee.{mul}
use Rattle.numeric.specs.Convert.{narrowed}
use Rattle.numeric.specs.Counts.{need}
use Rattle.resampling.specs.Resample.{State, state, ran_over, max_output_len}
use Rattle.resampling.specs.Flow.{Ran}
use Rattle.bell103.specs.declared.TonePair.{TonePair}
use Rattle.modulation.specs.Tone.{Keyer, Sound, generated}

-- ---- what sounds
-- the device's rate, the tones, the keyer, the resampler up to the rate, the samples that were made and not yet read, and the output scale
pub record Modulator : Type 0 where
  pub rate : ℕ
  pub tones : TonePair
  pub keyer : Keyer
  pub resampler : State
  pub pending : List Float
  pub amplitude : Float

abbrev pub modulator : ℕ → TonePair → Keyer → State → List Float → Float → Modulator
modulator r t k q p a = record { rate = r; tones = t; keyer = k; resampler = q; pending = p; amplitude = a }

-- a sample at the device: "narrowing to nearest, ties to even", then times the amplitude
unfoldable pub scaled : Float → Float → Float
scaled a v = mul binary32 (narrowed v) a

-- the samples at 8,000 Hz that a pass for r samples generates
abbrev pub tone_for : Modulator → ℕ → Sound
tone_for m r = generated (need r m.rate) m.tones m.keyer

-- what the resampler makes of them, in the room that `max_output_len` gives
abbrev pub made_for : Modulator → ℕ → Ran
made_for m r = ran_over m.resampler (max_output_len m.resampler.src m.resampler.dst (need r m.rate)) (tone_for m r).samples

-- a batch for r samples, all of it pending
unfoldable pub batch : Modulator → ℕ → Modulator
batch m r =
    modulator m.rate m.tones (tone_for m r).after (state m.resampler.src m.resampler.dst (made_for m r).flow)
    (map (scaled m.amplitude) (made_for m r).out) m.amplitude

-- the samples that were handed over, and the modulator
pub record Passed : Type 0 where
  pub samples : List Float
  pub after : Modulator

abbrev pub passed : List Float → Modulator → Passed
passed xs m = record { samples = xs; after = m }

-- the first r samples that are pending are handed over; "the remainder carries to `pending` for the next call"
unfoldable pub handed : Modulator → ℕ → Passed
handed m r = passed (take r m.pending) (modulator m.rate m.tones m.keyer m.resampler (drop r m.pending) m.amplitude)

-- one pass over an unwritten rest of r places
unfoldable pub pass : Modulator → ℕ → Passed
pass m r = handed (batch m r) r
