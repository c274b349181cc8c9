-- The law of the resampler's taps: 62 / 8000 × r in f64, quotient first, and rounded to a whole number, is 62 r / 8000 so rounded, for
-- r up to 96,000. Assumes nothing.
use Rattle.std.proofs.Common.{◌≡◌, ℕ, zero, suc, ◌+◌, ◌-◌, ◌*◌, ◌/◌, ◌%◌, ◌^◌, ◌<◌, ◌≤◌, Bool, true, false, ◌&&◌, T, eqb, negsuc, sym, refl, ap, ◌∙◌, subst, inl, inr, le_trans, add-zero, eq-or-lt_of_le, div-add-mod', arith, lit<, lit≤, eqb→eq, pow_pos, eqb-true}
use borrow.Author.Tests.{eqb-false}
use lib.Ieee.{Float, fin, binary64, round, mul, div, of_int}
use lib.Ieee.Fits.{and_l, and_r}
use Rattle.numeric.specs.F64.{◌⊗◌, ◌⊘◌, whole}
use Rattle.numeric.proofs.Whole.{mul-value, whole-value}
use Rattle.numeric.proofs.BoundLaws.{round-at-most, round-at-least}
use Rattle.numeric.specs.Bounds.{AtMost}
use Rattle.numeric.specs.Rounding.{round_usize}
use Rattle.numeric.proofs.RoundingLaws.{rounds-to}

-- 62 / 8000 is rounded first, down
span-is : whole 62 ⊘ whole 8000 ≡ fin false 1116892707587883 (negsuc 56)
unfolding div of_int
span-is = refl

abbrev span_times : ℕ → Float
span_times r = whole 62 ⊘ whole 8000 ⊗ whole r

product_is : (r : ℕ) → r ≤ 2 ^ 53 → span_times r ≡ round binary64 false (1116892707587883 * r) (2 ^ 57)
product_is r h =
    ap (λ (x : Float). x ⊗ whole r) span-is
    ∙ mul-value (fin false 1116892707587883 (negsuc 56)) (whole r) 1116892707587883 (2 ^ 57) r 1 (pow_pos 57) (lit< tt) (refl, refl) (whole-value r h)

-- 62 r / 8000 to the nearest whole number, half up, is halves r / 16000
abbrev halves : ℕ → ℕ
halves r = 2 * (62 * r) + 8000

-- away from a half, what is lost in rounding 62 / 8000 doesn't matter
no_tie : (r : ℕ) → r ≤ 96000 → (halves r % 16000 ≡ 0 → ⊥) → round_usize (span_times r) ≡ halves r / 16000
no_tie r h n =
    let j = halves r / 16000 in
    let u : AtMost (round binary64 false (1116892707587883 * r) (2 ^ 57)) ((2 * j + 1) * 2 ^ 12 - 1) (2 ^ 13) =
    round-at-most (1116892707587883 * r) (2 ^ 57) ((2 * j + 1) * 2 ^ 12 - 1) 13 (pow_pos 57) (few-up r h) (lit≤ tt) (up r h) in
    ap round_usize (product_is r (le_trans h (lit≤ tt)))
    ∙ rounds-to (round binary64 false (1116892707587883 * r) (2 ^ 57)) j 12 (few r h) u
    (λ z. round-at-least (1116892707587883 * r) (2 ^ 57) (2 * j - 1) 1 (pow_pos 57) (few-down r h) (lit≤ tt) u.is (down r h n))
  where
    up : (r : ℕ) → r ≤ 96000 → 1116892707587883 * r * 2 ^ 13 ≤ ((2 * (halves r / 16000) + 1) * 2 ^ 12 - 1) * 2 ^ 57
    up r h = omega arith

    down : (r : ℕ) → r ≤ 96000 → (halves r % 16000 ≡ 0 → ⊥) → (2 * (halves r / 16000) - 1) * 2 ^ 57 ≤ 1116892707587883 * r * 2 ^ 1
    down r h n = omega arith

    few : (r : ℕ) → r ≤ 96000 → halves r / 16000 < 2 ^ 53
    few r h = omega arith

    few-up : (r : ℕ) → r ≤ 96000 → (2 * (halves r / 16000) + 1) * 2 ^ 12 - 1 < 2 ^ 53
    few-up r h = omega arith

    few-down : (r : ℕ) → r ≤ 96000 → 2 * (halves r / 16000) - 1 < 2 ^ 53
    few-down r h = omega arith

-- the 24 rates up to 96,000 that are halfway, each worked out: there the product is rounded to the half itself
abbrev all : ℕ → (ℕ → Bool) → Bool
all zero p = true
all (suc n) p = p n && all n p

all-at : (n : ℕ) (p : ℕ → Bool) → T (all n p) → (i : ℕ) → i < n → T (p i)
all-at zero p t i h = absurd (none i h)
  where
    none : (i : ℕ) → i < 0 → ⊥
    none i h = omega arith
all-at (suc n) p t i h = elim (eq-or-lt_of_le (last i n h)) [ inl e ↦ subst (λ (k : ℕ). T (p k)) (sym e) (and_l (p n) (all n p) t) | inr l ↦ all-at n p (and_r (p n) (all n p) t) i l ]
  where
    last : (i n : ℕ) → i < suc n → i ≤ n
    last i n h = omega arith

abbrev right : ℕ → Bool
right i = eqb (round_usize (span_times (4000 * i + 2000))) (halves (4000 * i + 2000) / 16000)

all_right : T (all 24 right)
unfolding round_usize mul div of_int
all_right = tt

tie-is : (r : ℕ) → halves r % 16000 ≡ 0 → r ≡ 4000 * (r / 4000) + 2000
tie-is r h = let k = halves r / 16000 in settle r (r + 64 - 129 * k) (solve r k (sym (div-add-mod' (halves r) 16000) ∙ ap (λ (x : ℕ). k * 16000 + x) h ∙ add-zero (k * 16000)))
  where
    enough : (r k : ℕ) → halves r ≡ k * 16000 → 129 * k ≤ r + 64
    enough r k e = omega arith

    solve : (r k : ℕ) → halves r ≡ k * 16000 → r ≡ 4000 * (r + 64 - 129 * k) + 2000
    solve r k e = omega (arith, enough r k e)

    settle : (r q : ℕ) → r ≡ 4000 * q + 2000 → r ≡ 4000 * (r / 4000) + 2000
    settle r q e = omega arith

at-tie : (r : ℕ) → r ≤ 96000 → halves r % 16000 ≡ 0 → round_usize (span_times r) ≡ halves r / 16000
at-tie r h t =
    let i = r / 4000 in
    let e = tie-is r t in
    subst (λ (x : ℕ). round_usize (span_times x) ≡ halves x / 16000) (sym e)
    (eqb→eq (round_usize (span_times (4000 * i + 2000))) (halves (4000 * i + 2000) / 16000) (all-at 24 right all_right i (few r h e)))
  where
    few : (r : ℕ) → r ≤ 96000 → r ≡ 4000 * (r / 4000) + 2000 → r / 4000 < 24
    few r h e = omega arith

pub span-law : (r : ℕ) → r ≤ 96000 → round_usize (whole 62 ⊘ whole 8000 ⊗ whole r) ≡ (2 * (62 * r) + 8000) / 16000
span-law r h = go (eqb (halves r % 16000) 0) refl
  where
    go : (t : Bool) → eqb (halves r % 16000) 0 ≡ t → round_usize (span_times r) ≡ halves r / 16000
    go true e = at-tie r h (eqb-true (halves r % 16000) 0 e)
    go false e = no_tie r h (eqb-false (halves r % 16000) 0 e)
