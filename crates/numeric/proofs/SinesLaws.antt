-- The sine with its tests made before the series is document 01's. Assumes nothing.
use Rattle.std.proofs.Common.{◌≡◌, Bool, true, false, ◌||◌, sym, refl, ap, ◌∙◌, true≢false, arith}
use lib.Ieee.{Float, neg}
use Rattle.numeric.specs.F64.{◌⊖◌, ◌<ᶠ◌, ◌≤ᶠ◌, zero64, tau, pi}
use Rattle.std.specs.Prelude.{if◌then◌else◌}
use Rattle.numeric.specs.Sine.{reduced, folded, series, half_turn, sine_of}
use Rattle.numeric.proofs.SineLaws.{reduced-stop, reduced-more}
use Rattle.numeric.specs.Sines.{wrapped, lowered, signed, beyond, within_turn, EachOf}

-- ---- it is the sine
half-turn : (y : Float) → half_turn y ≡ within_turn y
unfolding half_turn lowered signed
half-turn y = by (pi ≤ᶠ y)
  where
    by : (b : Bool)
        → (if b then neg (series (folded (y ⊖ pi))) else series (folded y))
        ≡ (if b then neg (series (folded (if b then y ⊖ pi else y))) else series (folded (if b then y ⊖ pi else y)))
    by true = refl
    by false = refl

once : (x : Float) → tau ≤ᶠ wrapped x ≡ false → reduced 64 x ≡ wrapped x
unfolding wrapped
once x h = by (tau ≤ᶠ x) refl h
  where
    by : (b : Bool) → tau ≤ᶠ x ≡ b → tau ≤ᶠ (if b then x ⊖ tau else x) ≡ false → reduced 64 x ≡ (if b then x ⊖ tau else x)
    by true e k = reduced-more 64 x (omega arith) e ∙ reduced-stop 63 (x ⊖ tau) k
    by false e k = reduced-stop 64 x e

neither : (a b : Bool) → a || b ≡ false → (a ≡ false) × (b ≡ false)
neither true b e = absurd (true≢false e)
neither false b e = (refl, e)

within : (x : Float) → beyond x (wrapped x) ≡ false → within_turn (wrapped x) ≡ sine_of x
unfolding beyond sine_of
within x h =
    let n = neither (x <ᶠ zero64) (tau ≤ᶠ wrapped x) h in
    rw (n.0, once x n.1) (sym (half-turn (wrapped x)))

pub within-is : (x y w : Float) (b : Bool) → y ≡ wrapped x → b ≡ beyond x y → b ≡ false → w ≡ within_turn y → w ≡ sine_of x
within-is x y w b ey eb e ew =
    let h : beyond x (wrapped x) ≡ false = sym (eb ∙ ap (beyond x) ey) ∙ e in
    ew ∙ ap within_turn ey ∙ within x h

-- x that is within one turn as it comes
pub unwrapped : (x w : Float) (b : Bool) → b ≡ beyond x x → b ≡ false → w ≡ within_turn x → w ≡ sine_of x
unfolding beyond wrapped
unwrapped x w b eb e ew =
    let n = neither (x <ᶠ zero64) (tau ≤ᶠ x) (sym eb ∙ e) in
    let y : x ≡ wrapped x = rw n.1 refl in
    within-is x x w b y eb e ew

-- none of four is beyond its turn
pub record Inside (x a y b z c w d : Float) : Type 0 where
  pub first : beyond x a ≡ false
  pub second : beyond y b ≡ false
  pub third : beyond z c ≡ false
  pub fourth : beyond w d ≡ false

pub inside : {x a y b z c w d : Float} {t : Bool} → t ≡ (beyond x a || (beyond y b || (beyond z c || beyond w d))) → t ≡ false → Inside x a y b z c w d
inside {x} {a} {y} {b} {z} {c} {w} {d} et e =
    let n1 = neither (beyond x a) (beyond y b || (beyond z c || beyond w d)) (sym et ∙ e) in
    let n2 = neither (beyond y b) (beyond z c || beyond w d) n1.1 in
    let n3 = neither (beyond z c) (beyond w d) n2.1 in
    record { first = n1.0; second = n2.0; third = n3.0; fourth = n3.1 }

-- .. as they come
pub inside-sines : {x y z w p q r s : Float} → Inside x x y y z z w w → EachOf within_turn x y z w p q r s → EachOf sine_of x y z w p q r s
inside-sines {x} {y} {z} {w} i h =
    record {
      first = unwrapped x _ _ refl i.first h.first;
      second = unwrapped y _ _ refl i.second h.second;
      third = unwrapped z _ _ refl i.third h.third;
      fourth = unwrapped w _ _ refl i.fourth h.fourth;
    }

-- step by step: y lowered, folded, its series, and that with y's sign
pub steps-are : (y z f v w : Float) → z ≡ lowered y → f ≡ folded z → v ≡ series f → w ≡ signed y v → w ≡ within_turn y
steps-are y z f v w ez ef ev ew = rw (ew, ev, ef, ez)
