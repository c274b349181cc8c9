-- What the definitions of Carrier.antt come to: document 01's sentences on the detector, as theorems, and laws for the receiver's proofs.
-- Assumes nothing.
use Prim.Native.Nat.{ℕ, zero, suc, ◌+◌, ◌<◌, ◌≤◌}
use mathlib.Core.Bool.{Bool, true, false}
use mathlib.Core.List.{List, [], ◌∷◌}
use mathlib.Core.Path.{◌≡◌, refl, ap}
use native.Mathlib.Omega.{arith}
use borrow.Author.Tests.{lt-ltb, le-ltb}
use lib.Dec.{ltb}
use lib.Ieee.{Float}
use lib.ListN.{length, take, length-map}
use Rattle.numeric.specs.F64.{◌⊘◌, ◌<ᶠ◌, f64, one64}
use Rattle.std.specs.Bool.{if◌then◌else◌}
use Rattle.numeric.specs.Fold.{fold}
use Rattle.demodulation.specs.Carrier.{level_of, floor_min_fraction, floor_of, ratio_of, rise_ratio, fall_ratio, detector, while_up, while_down, updated}
use Rattle.demodulation.specs.Carrier.{goes_on, ended_answer, Answered, fresh_dominance, with_sample, dominance_reset, dominance_step}
use Rattle.demodulation.specs.declared.carrier.CarrierDetector.{CarrierDetector}
use Rattle.demodulation.specs.declared.carrier.ToneDominance.{ToneDominance}
use Rattle.demodulation.specs.Carrier.{ratio_in, AllLow, Falls}

-- what holds of each arm, its test known, holds of the choice
either : {A : Type 0} (P : Bool → A → Type 0) (b : Bool) {x y : A} → P true x → P false y → P b (if b then x else y)
either P true p q = p
either P false p q = q

-- ---- the detector
-- the Rust writes the constant as 1.0 / 10.0
pub floor-min-fraction : one64 ⊘ f64 0x4024_0000_0000_0000 ≡ floor_min_fraction
unfolding lib.Ieee.of_bits lib.Ieee.div
floor-min-fraction = refl

-- "up when ratio > 4.0": an update that begins undetected gives detected exactly then
pub rises : (d : CarrierDetector) (energy : Float) → d.detected ≡ false → (updated d energy).detected ≡ rise_ratio <ᶠ ratio_in d energy
unfolding updated while_down
rises d energy h = rw h (either Told (rise_ratio <ᶠ ratio_of (level_of d.level energy) (floor_of d.floor energy)) refl refl)
  where
    Told : Bool → CarrierDetector → Type 0
    Told b r = r.detected ≡ b

-- it begins with a clear count
pub rises-clear : (d : CarrierDetector) (energy : Float) → d.detected ≡ false → (updated d energy).detected ≡ true → (updated d energy).holdoff ≡ 0
unfolding updated while_down
rises-clear d energy h =
    rw h (either Clear (rise_ratio <ᶠ ratio_of (level_of d.level energy) (floor_of d.floor energy)) (λ up. refl) (λ up. cc))
  where
    Clear : Bool → CarrierDetector → Type 0
    Clear b r = r.detected ≡ true → r.holdoff ≡ 0

-- "the floor moves only in updates that begin undetected": one that begins detected leaves it
pub floor-frozen : (d : CarrierDetector) (energy : Float) → d.detected ≡ true → (updated d energy).floor ≡ d.floor
unfolding updated while_up
floor-frozen d energy h =
    rw h (either Same (ratio_of (level_of d.level energy) d.floor <ᶠ fall_ratio) (either Same (ltb (d.holdoff + 1) 4000) refl refl) refl)
  where
    Same : Bool → CarrierDetector → Type 0
    Same b r = r.floor ≡ d.floor

-- "any other ratio clearing the count"
pub other-clears : (d : CarrierDetector) (energy : Float) → d.detected ≡ true → ratio_in d energy <ᶠ fall_ratio ≡ false
    → ((updated d energy).detected ≡ true) × ((updated d energy).holdoff ≡ 0)
unfolding updated while_up
other-clears d energy h other = rw (h, rw h at other) (refl, refl)

-- a detected update with ratio below 2.0: one more is counted, and the 4,000th goes down
low-counted : (d : CarrierDetector) (energy : Float) → d.detected ≡ true → ratio_in d energy <ᶠ fall_ratio ≡ true → d.holdoff + 1 < 4000
    → updated d energy ≡ detector (level_of d.level energy) d.floor true (d.holdoff + 1)
unfolding updated while_up
low-counted d energy h low n = rw (h, rw h at low, lt-ltb (d.holdoff + 1) 4000 n)

low-down : (d : CarrierDetector) (energy : Float) → d.detected ≡ true → ratio_in d energy <ᶠ fall_ratio ≡ true → 4000 ≤ d.holdoff + 1
    → (updated d energy).detected ≡ false
unfolding updated while_up
low-down d energy h low n = rw (h, rw h at low, le-ltb (d.holdoff + 1) 4000 n)

stays_up : (n : ℕ) (energies : List Float) (d : CarrierDetector) → d.detected ≡ true → AllLow d energies → d.holdoff + n < 4000
    → (fold updated d (take n energies)).detected ≡ true
stays_up zero energies d h low m = h
stays_up (suc n) [] d h low m = h
stays_up (suc n) (energy ∷ rest) d h low m =
    let e = low-counted d energy h low.0 (omega arith) in
    stays_up n rest (updated d energy) (ap (λ (r : CarrierDetector). r.detected) e) low.1 (omega (arith, ap (λ (r : CarrierDetector). r.holdoff) e))

goes_down : (energies : List Float) (d : CarrierDetector) → d.detected ≡ true → AllLow d energies → 0 < length energies
    → d.holdoff + length energies ≡ 4000 → (fold updated d energies).detected ≡ false
goes_down [] d h low p m = absurd (omega arith)
goes_down (energy ∷ []) d h low p m = low-down d energy h low.0 (omega arith)
goes_down (energy ∷ (next ∷ rest)) d h low p m =
    let e = low-counted d energy h low.0 (omega arith) in
    goes_down (next ∷ rest) (updated d energy) (ap (λ (r : CarrierDetector). r.detected) e) low.1 (omega arith) (omega (arith, ap (λ (r : CarrierDetector). r.holdoff) e))

-- "down at the 4,000th consecutive detected update with ratio below 2.0": from a detected detector whose count is clear
pub falls-at-4000 : (d : CarrierDetector) (energies : List Float) → d.detected ≡ true → d.holdoff ≡ 0 → length energies ≡ 4000 → AllLow d energies
    → Falls d energies
falls-at-4000 d energies h none m low =
    record { stays = λ n p. stays_up n energies d h low (omega arith); falls = goes_down energies d h low (omega arith) (omega arith) }

-- ---- dominance
module _ (d : ToneDominance) (x : Float) where
  -- what is said of a sample's block: it goes on exactly while count + 1 < 256
  pub step-says : (dominance_step d x).answer ≡ (if ltb (d.count + 1) 256 then goes_on else ended_answer (with_sample d x))
  unfolding dominance_step
  step-says = either Told (ltb (d.count + 1) 256) refl refl
    where
      Told : Bool → Answered → Type 0
      Told b j = j.answer ≡ (if b then goes_on else ended_answer (with_sample d x))

  -- the count after it
  pub count-after : (dominance_step d x).state.count ≡ (if ltb (d.count + 1) 256 then d.count + 1 else 0)
  unfolding dominance_step dominance_reset
  count-after = either Told (ltb (d.count + 1) 256) refl refl
    where
      Told : Bool → Answered → Type 0
      Told b j = j.state.count ≡ (if b then d.count + 1 else 0)

  -- the filters stay as many
  pub filters-kept : (length (dominance_step d x).state.mark ≡ length d.mark) × (length (dominance_step d x).state.own ≡ length d.own)
  unfolding dominance_step dominance_reset
  filters-kept = either Told (ltb (d.count + 1) 256) (simp length-map, simp length-map) (simp length-map, simp length-map)
    where
      Told : Bool → Answered → Type 0
      Told b j = (length j.state.mark ≡ length d.mark) × (length j.state.own ≡ length d.own)

-- five filters for the mark and two for this end's own tones
pub fresh-filters : (mark_hz own_mark_hz own_space_hz rate : Float)
    → (length (fresh_dominance mark_hz own_mark_hz own_space_hz rate).mark ≡ 5) × (length (fresh_dominance mark_hz own_mark_hz own_space_hz rate).own ≡ 2)
unfolding fresh_dominance
fresh-filters mark_hz own_mark_hz own_space_hz rate = (refl, refl)
