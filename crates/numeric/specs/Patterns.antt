-- How the code of `convert` narrows an f64: its own steps, on bit patterns with the sign off. What it promises is `narrowed` of
-- Convert.antt; no promise to a caller cites this file. Assumes nothing.
use Rattle.std.specs.Prelude.{ℕ, ◌+◌, ◌-◌, ◌*◌, ◌/◌, ◌%◌, ◌^◌, min, Bool, not, ◌&&◌, is_nan, nat_le, nat_lt, Float}
use Rattle.std.specs.Float.Ieee.Nearest.{closest}
use Rattle.numeric.specs.F64.{bits}
use Rattle.std.specs.Prelude.{if◌then◌else◌}

-- the upper digits of the pattern, to the nearest, at a tie to the even. From 2 ^ -126 on the exponent's fields differ by 896 and 29
-- digits go; below that the leading digit is written out, and more digits go the smaller the number is; below 2 ^ -151 all go.
abbrev pub digits : ℕ → ℕ
digits b =
    if nat_le 0x3810_0000_0000_0000 b then closest (b - 0x3800_0000_0000_0000) 0x2000_0000 else
    if nat_le 0x3680_0000_0000_0000 b then closest (b % 0x10_0000_0000_0000 + 0x10_0000_0000_0000) (2 ^ (926 - b / 0x10_0000_0000_0000)) else
    0

-- no pattern past the infinity's
unfoldable pub narrow_bits : ℕ → ℕ
narrow_bits b = min (digits b) 0x7F80_0000

-- with either sign from 2 ^ -126 on, where an f32 has all its digits, and below 2 ^ 127
unfoldable pub plain : Float → Bool
plain x = not (is_nan x) && (nat_le 0x3810_0000_0000_0000 (bits x % 0x8000_0000_0000_0000) && nat_lt (bits x % 0x8000_0000_0000_0000) 0x47E0_0000_0000_0000)

-- the f64's pattern of the f32 nearest to such a number: 29 digits go, and the exponent's field stays as wide as it is
abbrev pub wide_bits : ℕ → ℕ
wide_bits b = closest b 0x2000_0000 * 0x2000_0000
