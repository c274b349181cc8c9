-- What the examples of the inner parts answer: the detector on one energy, and a block of equal samples. Assumes nothing.
use Rattle.std.specs.Prelude.{ℕ, zero, suc, Float, if◌then◌else◌, Option, Some, None}
use Rattle.numeric.specs.F64.{f64}
use Rattle.demodulation.specs.Carrier.{updated, fresh_detector, fresh_dominance, with_sample, dominance_step, BlockAnswer, ended_answer}
use Rattle.demodulation.specs.declared.carrier.CarrierDetector.{CarrierDetector}
use Rattle.demodulation.specs.declared.carrier.ToneDominance.{ToneDominance}

-- the first of at most n more updates with this energy at which the detector is up, the next of them being the k-th
unfoldable pub first_up : ℕ → ℕ → CarrierDetector → Float → Option ℕ
first_up zero k d energy = None
first_up (suc n) k d energy = if (updated d energy).detected then Some k else first_up n (suc k) (updated d energy) energy

-- "Detector from fresh"
abbrev pub rise_of : Float → ℕ → Option ℕ
rise_of energy updates = first_up updates 1 fresh_detector energy

-- after n samples, all x
unfoldable pub fed : ℕ → Float → ToneDominance → ToneDominance
fed zero x d = d
fed (suc n) x d = fed n x (dominance_step d x).state

-- a fresh block at 8,000 Hz
abbrev pub fresh_block : Float → Float → Float → ToneDominance
fresh_block mark_hz own_mark_hz own_space_hz = fresh_dominance mark_hz own_mark_hz own_space_hz (f64 0x40BF_4000_0000_0000)

-- the same after 255 samples, all x
abbrev pub all_but_one : Float → Float → Float → Float → ToneDominance
all_but_one mark_hz own_mark_hz own_space_hz x = fed 255 x (fresh_block mark_hz own_mark_hz own_space_hz)

-- what is said at the 256th: the block has ended
abbrev pub block_says : Float → Float → Float → Float → BlockAnswer
block_says mark_hz own_mark_hz own_space_hz x = ended_answer (with_sample (all_but_one mark_hz own_mark_hz own_space_hz x) x)
