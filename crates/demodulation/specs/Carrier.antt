-- carrier.rs, operation by operation: the carrier detector, and the test that the energy is the far end's mark tone. Assumes nothing.
use Rattle.std.specs.Prelude.{ℕ, ◌+◌, ◌<◌, Bool, true, false, ◌||◌, List, [], ◌∷◌, ◌++◌, map, ltb, Float, ◌≡◌, take, if◌then◌else◌}
use Rattle.std.specs.Float.Ieee.{neg}
use Rattle.numeric.specs.F64.{◌⊕◌, ◌⊖◌, ◌⊗◌, ◌⊘◌, ◌<ᶠ◌, f64, zero64, one64, two64, larger}
use Rattle.numeric.specs.Fold.{fold}
use Rattle.demodulation.specs.Goertzel.{goertzel_new, goertzel_feed, goertzel_power, goertzel_reset}
use Rattle.demodulation.specs.declared.goertzel.Goertzel.{Goertzel}
use Rattle.demodulation.specs.declared.carrier.CarrierDetector.{CarrierDetector}
use Rattle.demodulation.specs.declared.carrier.ToneDominance.{ToneDominance}
use Rattle.demodulation.specs.declared.carrier.Judged.{Judged}
use Rattle.demodulation.specs.declared.carrier.Verdict.{Verdict}
use Rattle.demodulation.specs.declared.carrier.Verdict.TheVariants.{Going, Dominant, Not}

-- 0.01
abbrev pub one_percent : Float
one_percent = f64 0x3F84_7AE1_47AE_147B

-- 0.02
abbrev pub two_percent : Float
two_percent = f64 0x3F94_7AE1_47AE_147B

-- ---- the detector
-- ATTACK, 0.01
abbrev pub attack : Float
attack = one_percent

-- FLOOR_ADAPT, 1e-4
abbrev pub floor_adapt : Float
floor_adapt = f64 0x3F1A_36E2_EB1C_432D

-- INITIAL_FLOOR, 1e-3
abbrev pub initial_floor : Float
initial_floor = f64 0x3F50_624D_D2F1_A9FC

-- FLOOR_MIN_FRACTION, 1.0 / 10.0
abbrev pub floor_min_fraction : Float
floor_min_fraction = f64 0x3FB9_9999_9999_999A

-- FLOOR_EPSILON, 1e-12
abbrev pub floor_epsilon : Float
floor_epsilon = f64 0x3D71_9799_812D_EA11

-- RISE_RATIO, 4.0
abbrev pub rise_ratio : Float
rise_ratio = f64 0x4010_0000_0000_0000

-- FALL_RATIO, 2.0
abbrev pub fall_ratio : Float
fall_ratio = two64

-- the level moves towards the energy by ATTACK of the difference
abbrev pub level_of : Float → Float → Float
level_of level energy = level ⊕ attack ⊗ (energy ⊖ level)

-- the floor moves towards the energy by FLOOR_ADAPT of the difference
abbrev pub moved_floor : Float → Float → Float
moved_floor floor energy = floor ⊕ floor_adapt ⊗ (energy ⊖ floor)

-- the floor's lower bound
abbrev pub least_floor : Float
least_floor = initial_floor ⊗ floor_min_fraction

-- the floor after an update that begins undetected
unfoldable pub floor_of : Float → Float → Float
floor_of floor energy = if moved_floor floor energy <ᶠ least_floor then least_floor else moved_floor floor energy

-- level over floor, FLOOR_EPSILON keeping the divisor from zero
abbrev pub ratio_of : Float → Float → Float
ratio_of level floor = level ⊘ (floor ⊕ floor_epsilon)

-- a detector's state: level, floor, whether it is up, and the count of consecutive low updates
abbrev pub detector : Float → Float → Bool → ℕ → CarrierDetector
detector level floor up count = record { level = level; floor = floor; detected = up; holdoff = count }

-- an update that begins undetected: "up when ratio > 4.0"
unfoldable pub while_down : Float → Float → ℕ → CarrierDetector
while_down level floor count = if rise_ratio <ᶠ ratio_of level floor then detector level floor true 0 else detector level floor false count

-- an update that begins detected: "down at the 4,000th consecutive detected update with ratio below 2.0, any other ratio clearing the count"
unfoldable pub while_up : Float → Float → ℕ → CarrierDetector
while_up level floor count =
    if ratio_of level floor <ᶠ fall_ratio
    then (if ltb (count + 1) 4000 then detector level floor true (count + 1) else detector level floor false 0)
    else detector level floor true 0

-- "the floor moves only in updates that begin undetected"
unfoldable pub updated : CarrierDetector → Float → CarrierDetector
updated d energy =
    if d.detected
    then while_up (level_of d.level energy) d.floor d.holdoff
    else while_down (level_of d.level energy) (floor_of d.floor energy) d.holdoff

-- CarrierDetector::new
abbrev pub fresh_detector : CarrierDetector
fresh_detector = detector zero64 initial_floor false 0

-- ---- dominance
-- PROBE_OFFSETS: -0.02, -0.01, 0.0, 0.01, 0.02
abbrev pub probe_offsets : List Float
probe_offsets = neg two_percent ∷ neg one_percent ∷ zero64 ∷ one_percent ∷ two_percent ∷ []

-- DOMINANCE_RATIO, 40.0
abbrev pub dominance_ratio : Float
dominance_ratio = f64 0x4044_0000_0000_0000

-- OWN_LEAK_GUARD, 0.005
abbrev pub own_leak_guard : Float
own_leak_guard = f64 0x3F74_7AE1_47AE_147B

-- DOMINANCE_BLOCK as an f64, 256.0
abbrev pub block_length : Float
block_length = f64 0x4070_0000_0000_0000

-- the filter for the mark at an offset: mark_hz × (1.0 + offset)
abbrev pub probe : Float → Float → Float → Goertzel
probe mark_hz rate offset = goertzel_new (mark_hz ⊗ (one64 ⊕ offset)) rate

-- ToneDominance::new: five filters for the far end's mark, one for each of this end's own tones
unfoldable pub fresh_dominance : Float → Float → Float → Float → ToneDominance
fresh_dominance mark_hz own_mark_hz own_space_hz rate =
    record {
      mark = map (probe mark_hz rate) probe_offsets;
      own = goertzel_new own_mark_hz rate ∷ goertzel_new own_space_hz rate ∷ [];
      wideband = zero64;
      count = 0;
    }

-- "Maximum keeps the first unless the second is greater"
abbrev pub stronger : Float → Goertzel → Float
stronger best g = larger best (goertzel_power g)

-- narrow power: that of the strongest probe, from 0.0 on
unfoldable pub narrow_of : List Goertzel → Float
narrow_of mark = fold stronger zero64 mark

-- the energy of this end's own tones, 2/256 of their power: "Sums start at 0.0"
unfoldable pub own_energy : List Goertzel → Float
own_energy own = fold (λ sum g. sum ⊕ goertzel_power g) zero64 own ⊗ two64 ⊘ block_length

-- the floored remainder: the block's energy without this end's own, or OWN_LEAK_GUARD of this end's own where that is greater
unfoldable pub others_of : List Goertzel → Float → Float
others_of own wideband = larger (wideband ⊖ own_energy own) (own_energy own ⊗ own_leak_guard)

-- what is said of a block: nothing while it goes on; of one that ends Rust's yes or no, narrow power and floored remainder
pub data BlockAnswer : Type 0 where
  goes_on : BlockAnswer
  ends_with : Bool → Float → Float → BlockAnswer

-- what each case of the code's answer says
abbrev pub yes_of : Verdict → BlockAnswer
yes_of Going = goes_on
yes_of (Dominant narrow others) = ends_with true narrow others
yes_of (Not narrow others) = ends_with false narrow others

-- "Rust's yes is narrow > 40 × others"; "A finished block's answer carries the two figures it compared"
unfoldable pub judged : Float → Float → BlockAnswer
judged narrow others = ends_with (dominance_ratio ⊗ others <ᶠ narrow) narrow others

-- of a block that ends
abbrev pub ended_answer : ToneDominance → BlockAnswer
ended_answer d = judged (narrow_of d.mark) (others_of d.own d.wideband)

-- the filters after a sample, and what is said of the block
pub record Answered : Type 0 where
  pub state : ToneDominance
  pub answer : BlockAnswer

-- what the code answers, read so
abbrev pub answered_by : Judged → Answered
answered_by j = record { state = j.state; answer = yes_of j.verdict }

-- ToneDominance::reset: a fresh block for the same filters
unfoldable pub dominance_reset : ToneDominance → ToneDominance
dominance_reset d = record { mark = map goertzel_reset d.mark; own = map goertzel_reset d.own; wideband = zero64; count = 0 }

-- the block with one more sample
abbrev pub with_sample : ToneDominance → Float → ToneDominance
with_sample d x =
    record {
      mark = map (goertzel_feed x) d.mark;
      own = map (goertzel_feed x) d.own;
      wideband = d.wideband ⊕ x ⊗ x;
      count = d.count + 1;
    }

-- "blocks of 256": a full block is judged in the step that fills it, and a fresh one begins
abbrev pub answered : ToneDominance → Answered
answered d =
    if ltb d.count 256
    then record { state = d; answer = goes_on }
    else record { state = dominance_reset d; answer = ended_answer d }

-- ToneDominance::feed
unfoldable pub dominance_step : ToneDominance → Float → Answered
dominance_step d x = answered (with_sample d x)

-- yes or no, of a block that ends
abbrev pub yes_in : BlockAnswer → List Bool
yes_in goes_on = []
yes_in (ends_with dominant narrow others) = dominant ∷ []

-- yes or no of each block that these samples end, in order
unfoldable pub blocks_in : ToneDominance → List Float → List Bool
blocks_in d [] = []
blocks_in d (x ∷ xs) = yes_in (dominance_step d x).answer ++ blocks_in (dominance_step d x).state xs

-- some block was dominant
abbrev pub some_yes : List Bool → Bool
some_yes [] = false
some_yes (dominant ∷ more) = dominant || some_yes more

-- the ratio that an update compares: the level after it, over the floor after it
abbrev pub ratio_in : CarrierDetector → Float → Float
ratio_in d energy = ratio_of (level_of d.level energy) (if d.detected then d.floor else floor_of d.floor energy)

-- each update along the energies has a ratio below 2.0
abbrev pub AllLow : CarrierDetector → List Float → Type 0
AllLow d [] = Unit
AllLow d (energy ∷ rest) = (ratio_in d energy <ᶠ fall_ratio ≡ true) × AllLow (updated d energy) rest

-- the detector along a list of energies: still up after any 3,999 or fewer of them, and down after all
pub record Falls (d : CarrierDetector) (energies : List Float) : Type 0 where
  pub stays : (n : ℕ) → n < 4000 → (fold updated d (take n energies)).detected ≡ true
  pub falls : (fold updated d energies).detected ≡ false
