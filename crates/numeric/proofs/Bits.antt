-- Which bit patterns are numbers, and where the sign stands. Assumes nothing.
use Rattle.std.proofs.Common.{ℕ, ◌*◌, ◌^◌, ◌<◌, ◌≤◌, true, false, not, T, lt_of_le_of_lt, mod-eq_of_lt, arith, lit<}
use lib.Arith.{le→nltb}
use lib.Ieee.{Float, nan, inf, fin, Format, binary32, binary64, nan_bits, is_nan, neg, to_bits, fits, top, ones, hid}
use lib.Ieee.Fits.{neg-fits}
use lib.Ieee.Bits.{to_bits-lt, nan_bits_above}
use Rattle.numeric.specs.F64.{bits}
use Rattle.numeric.proofs.Whole.{no_minus}

-- up to the infinity's pattern
pub number-bits : (f : Format) (n : ℕ) → n ≤ ones f * hid f → T (not (nan_bits f n))
number-bits f n h = rw (nan_bits_above f n, mod-eq_of_lt (lt_of_le_of_lt h (below-sign f))) (le→nltb (ones f * hid f) n h)
  where
    below-sign : (f : Format) → ones f * hid f < top f
    below-sign binary32 = lit< tt
    below-sign binary64 = lit< tt

-- with a minus sign the bits would be 2 ^ 63 more, and still below 2 ^ 64
pub bits-lt : (v : Float) → T (fits binary64 v) → T (no_minus v) → T (not (is_nan v)) → bits v < 2 ^ 63
unfolding is_nan neg to_bits
bits-lt nan h p n = absurd n
bits-lt (inf true) h p n = absurd p
bits-lt (inf false) h p n = omega (arith, to_bits-lt binary64 (inf true) (neg-fits binary64 (inf false) h))
bits-lt (fin true m e) h p n = absurd p
bits-lt (fin false m e) h p n = omega (arith, to_bits-lt binary64 (fin true m e) (neg-fits binary64 (fin false m e) h))
