-- Sizes of what goes through a resampler whose taps and samples are at most 1: sums, interpolation, and what a whole input makes. Each bound is
-- generous, and none depends on how many taps there are or how many samples went in. Assumes nothing.
use Prim.Native.Nat.{ℕ, zero, suc, ◌+◌, ◌^◌, ◌<◌}
use mathlib.Core.List.{List, [], ◌∷◌, ◌++◌}
use native.Mathlib.Omega.{arith}
use lib.Dec.{lit≤}
use lib.ListN.{length, take}
use lib.Ieee.{Float, of_bits, round, le, lt, eq}
use Rattle.numeric.specs.F64.{◌⊕◌, ◌⊖◌, ◌⊗◌, f64, zero64, one64, half64, two64}
use Rattle.numeric.specs.Bounds.{Small, AllSmall}
use Rattle.numeric.proofs.SizeLaws.{rounds-to, small-more, small-add, small-sub, small-kept, small_mul}
use Rattle.resampling.specs.Filter.{Window, sum_from, filtered, newest, hermite_at}

-- ---- lists
pub all_append : (n : ℕ) (xs ys : List Float) → AllSmall n xs → AllSmall n ys → AllSmall n (xs ++ ys)
all_append n [] ys u v = v
all_append n (x ∷ xs) ys u v = (u.0, all_append n xs ys u.1 v)

pub all_take : (n k : ℕ) (xs : List Float) → AllSmall n xs → AllSmall n (take k xs)
all_take n zero xs u = tt
all_take n (suc k) [] u = tt
all_take n (suc k) (x ∷ xs) u = (u.0, all_take n k xs u.1)

-- ---- the numbers
pub record Numbers : Type 0 where
  pub zero : Small 0 zero64
  pub one : Small 0 one64
  pub half : Small 0 half64
  pub three_halves : Small 1 (f64 0x3FF8_0000_0000_0000)
  pub two : Small 1 two64
  pub two-and-half : Small 2 (f64 0x4004_0000_0000_0000)
  pub three : Small 2 (f64 0x4008_0000_0000_0000)
  -- sums that keep adding at most 1, 2 ^ 4 and 2 ^ 182
  pub kept-1 : rounds-to (2 ^ (0 + 53) + 2 ^ 0) (0 + 53)
  pub kept-16 : rounds-to (2 ^ (4 + 53) + 2 ^ 4) (4 + 53)
  pub kept-182 : rounds-to (2 ^ (182 + 53) + 2 ^ 182) (182 + 53)

pub numbers : Numbers
unfolding of_bits round le lt eq
numbers =
    record {
      zero = record { is = tt; under = lit≤ tt };
      one = record { is = tt; under = lit≤ tt };
      half = record { is = tt; under = lit≤ tt };
      three_halves = record { is = tt; under = lit≤ tt };
      two = record { is = tt; under = lit≤ tt };
      two-and-half = record { is = tt; under = lit≤ tt };
      three = record { is = tt; under = lit≤ tt };
      kept-1 = tt;
      kept-16 = tt;
      kept-182 = tt;
    }

-- ---- the filter: products of taps at most 1 and samples at most 2 ^ n
module _ (n : ℕ) (h : n + 53 < 1024) (kept : rounds-to (2 ^ (n + 53) + 2 ^ n) (n + 53)) where
  sum-sized : (acc : Float) (ts xs : List Float) → Small (n + 53) acc → AllSmall 0 ts → AllSmall n xs → Small (n + 53) (sum_from acc ts xs)
  unfolding sum_from
  sum-sized acc [] xs a u v = a
  sum-sized acc (t ∷ ts) [] a u v = a
  sum-sized acc (t ∷ ts) (x ∷ xs) a u v =
      sum-sized (acc ⊕ t ⊗ x) ts xs (small-kept acc (t ⊗ x) n h kept a (small-more (omega arith) (small_mul t x 0 n (omega arith) u.0 v.0))) u.1 v.1

  pub filtered-sized : (ts xs : List Float) → AllSmall 0 ts → AllSmall n xs → Small (n + 53) (filtered ts xs)
  unfolding filtered
  filtered-sized ts xs u v = sum-sized zero64 ts xs (small-more (omega arith) numbers.zero) u v

pub newest-sized : (n : ℕ) (x : Float) (h : List Float) → Small n x → AllSmall n h → AllSmall n (newest x h)
unfolding newest
newest-sized n x h u v = all_take n (length h) (x ∷ h) (u, v)

-- ---- the interpolation, at t up to 2 ^ 58 between samples up to 2 ^ w
pub record Windowed (w : ℕ) (v : Window) : Type 0 where
  pub y0 : Small w v.y0
  pub y1 : Small w v.y1
  pub y2 : Small w v.y2
  pub y3 : Small w v.y3

module _ (w : ℕ) (h : w + 182 < 1024) (v : Window) (s : Windowed w v) where
  c1-sized : Small (w + 1) (half64 ⊗ (v.y2 ⊖ v.y0))
  c1-sized =
      small-more (omega arith) (small_mul half64 (v.y2 ⊖ v.y0) 0 (w + 1) (omega arith) numbers.half (small-sub v.y2 v.y0 w (omega arith) s.y2 s.y0))

  c2-sized : Small (w + 5) (v.y0 ⊖ f64 0x4004_0000_0000_0000 ⊗ v.y1 ⊕ two64 ⊗ v.y2 ⊖ half64 ⊗ v.y3)
  c2-sized =
      let a = small-more {b = w + 2} (omega arith) (small_mul (f64 0x4004_0000_0000_0000) v.y1 2 w (omega arith) numbers.two-and-half s.y1) in
      let b = small-sub v.y0 _ (w + 2) (omega arith) (small-more (omega arith) s.y0) a in
      let c = small-more {b = w + 2 + 1} (omega arith) (small_mul two64 v.y2 1 w (omega arith) numbers.two s.y2) in
      let d = small-add _ _ (w + 2 + 1) (omega arith) b c in
      let e = small-more {b = w + 2 + 1 + 1} (omega arith) (small_mul half64 v.y3 0 w (omega arith) numbers.half s.y3) in
      small-more (omega arith) (small-sub _ _ (w + 2 + 1 + 1) (omega arith) d e)

  c3-sized : Small (w + 3) (half64 ⊗ (v.y3 ⊖ v.y0) ⊕ f64 0x3FF8_0000_0000_0000 ⊗ (v.y1 ⊖ v.y2))
  c3-sized =
      let a = small_mul half64 (v.y3 ⊖ v.y0) 0 (w + 1) (omega arith) numbers.half (small-sub v.y3 v.y0 w (omega arith) s.y3 s.y0) in
      let b = small_mul (f64 0x3FF8_0000_0000_0000) (v.y1 ⊖ v.y2) 1 (w + 1) (omega arith) numbers.three_halves (small-sub v.y1 v.y2 w (omega arith) s.y1 s.y2) in
      small-more (omega arith) (small-add _ _ (w + 2) (omega arith) (small-more (omega arith) a) (small-more (omega arith) b))

  -- one step of Horner's rule
  horner : (c d t : Float) (n : ℕ) → n + 59 < 1024 → Small n c → Small n d → Small 58 t → Small (n + 59) (c ⊗ t ⊕ d)
  horner c d t n l u e r =
      small-more (omega arith) (small-add _ d (n + 58) (omega arith) (small_mul c t n 58 (omega arith) u r) (small-more (omega arith) e))

  pub hermite-sized : (t : Float) → Small 58 t → Small (w + 182) (hermite_at v t)
  unfolding hermite_at
  hermite-sized t r =
      let a = horner _ _ t (w + 5) (omega arith) (small-more (omega arith) c3-sized) c2-sized r in
      let b = horner _ _ t (w + 5 + 59) (omega arith) a (small-more (omega arith) c1-sized) r in
      small-more (omega arith) (horner _ v.y1 t (w + 5 + 59 + 59) (omega arith) b (small-more (omega arith) s.y1) r)
