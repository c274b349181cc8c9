-- A NaN's bits, and the nearest number of 16 bits. Assumes nothing.
use Rattle.std.proofs.Common.{◌≡◌, ℕ, ◌+◌, ◌-◌, ◌*◌, ◌/◌, ◌^◌, ◌<◌, ◌≤◌, min, true, false, T, ltb, ℤ, pos, sym, refl, subst, lt_of_le_of_lt, div-lt_iff_lt-mul, arith, lit<, ltb-true, lt-ltb, eq-eqb}
use mathlib.Core.Bool.{false≢true}
use lib.Ieee.{Float, nan, inf, fin, up, down, lt, eq, ne, of_bits, to_bits, to_unsigned, binary32, binary64}
use lib.Ieee.Fits.{down_pos}

abbrev twice : Float
twice = of_bits binary64 0x40EF_FFC0_0000_0000

-- a NaN is written as the plain one
pub nan-bits : (x : Float) → ne x x ≡ true → 0x7FC0_0000 ≡ to_bits binary32 x
unfolding ne eq to_bits
nan-bits nan h = refl
nan-bits (inf true) h = absurd (false≢true h)
nan-bits (inf false) h = absurd (false≢true h)
nan-bits (fin true m e) h = absurd (false≢true (rw (eq-eqb (m * up e * down e) (m * up e * down e) refl) at h))
nan-bits (fin false m e) h = absurd (false≢true (rw (eq-eqb (m * up e * down e) (m * up e * down e) refl) at h))

-- what is less than 65,534 is less than 2 ^ 64, and so is its whole part less than 65,534
below : (m : ℕ) (e : ℤ) → lt (fin false m e) twice ≡ true → m * up e < 65534 * down e
unfolding lt of_bits
below m e h = lt_of_le_of_lt (le-of-one (m * up e)) (ltb-true (m * up e * 1) (65534 * down e) h)
  where
    le-of-one : (a : ℕ) → a ≤ a * 1
    le-of-one a = omega arith

pub fits-64 : (z : Float) → lt z twice ≡ true → T (lt z (fin false 1 (pos 64)))
unfolding lt of_bits
fits-64 nan h = absurd (false≢true h)
fits-64 (inf true) h = tt
fits-64 (inf false) h = absurd (false≢true h)
fits-64 (fin true m e) h = below-zero (m * up e * 1) (2 ^ 64 * down e) (big (down e) (down_pos e))
  where
    big : (d : ℕ) → 0 < d → 0 < 2 ^ 64 * d
    big d p = omega arith

    below-zero : (a b : ℕ) → 0 < b → T (ltb 0 (a + b))
    below-zero a b p = let q : 0 < a + b = omega arith in subst T (sym (lt-ltb 0 (a + b) q)) tt
fits-64 (fin false m e) h = small (m * up e) (down e) (below m e h)
  where
    small : (a d : ℕ) → a < 65534 * d → T (ltb (a * 1) (2 ^ 64 * d))
    small a d p = let q : a * 1 < 2 ^ 64 * d = omega arith in subst T (sym (lt-ltb (a * 1) (2 ^ 64 * d) q)) tt

pub whole-few : (z : Float) → lt z twice ≡ true → to_unsigned 64 z < 65534
unfolding to_unsigned lt of_bits
whole-few nan h = lit< tt
whole-few (inf true) h = lit< tt
whole-few (inf false) h = absurd (false≢true h)
whole-few (fin true m e) h = lit< tt
whole-few (fin false m e) h = lt_of_le_of_lt (least (m * up e / down e) (2 ^ 64 - 1)) ((div-lt_iff_lt-mul (down_pos e)).1 (below m e h))
  where
    least : (a b : ℕ) → min a b ≤ a
    least a b = omega arith
