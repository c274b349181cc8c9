-- How the definitions write f64 arithmetic. Each operation is worked out exactly and rounded once, to nearest, ties to even, as IEEE 754
-- has it (`lib.Ieee`). A float is `nan` (a NaN), `inf s` or `fin s m e`, which is m × 2 ^ e; s says whether it has a minus sign, and 2 ^ e
-- is the fraction up e / down e. Assumes nothing.
use Rattle.std.specs.Prelude.{ℕ, Bool, false, pos, from_bits, to_bits, Float}
use Rattle.std.specs.Float.{nan, inf, fin, binary64}
use Rattle.std.specs.Float.Ieee.{of_int, add, sub, mul, div, lt, le, eq}
use Rattle.std.specs.Prelude.{if◌then◌else◌}

infixl 65 ◌⊕◌ ◌⊖◌
infixl 70 ◌⊗◌ ◌⊘◌
infix 50 ◌<ᶠ◌ ◌≤ᶠ◌ ◌=ᶠ◌
-- a + b
abbrev pub ◌⊕◌ : Float → Float → Float
a ⊕ b = add binary64 a b

-- a - b
abbrev pub ◌⊖◌ : Float → Float → Float
a ⊖ b = sub binary64 a b

-- a × b
abbrev pub ◌⊗◌ : Float → Float → Float
a ⊗ b = mul binary64 a b

-- a / b
abbrev pub ◌⊘◌ : Float → Float → Float
a ⊘ b = div binary64 a b

-- a < b, a ≤ b, a = b: each is no where one of the two is a NaN
abbrev pub ◌<ᶠ◌ : Float → Float → Bool
a <ᶠ b = lt a b

abbrev pub ◌≤ᶠ◌ : Float → Float → Bool
a ≤ᶠ b = le a b

abbrev pub ◌=ᶠ◌ : Float → Float → Bool
a =ᶠ b = eq a b

-- the f64 with these 64 bits
abbrev pub f64 : ℕ → Float
f64 b = from_bits binary64 b

-- the bits of an f64; those of a NaN are some NaN's
abbrev pub bits : Float → ℕ
bits x = to_bits binary64 x

-- the whole number n as an f64
abbrev pub whole : ℕ → Float
whole n = of_int binary64 (pos n)

-- ---- numbers that several definitions name
-- 0.0
abbrev pub zero64 : Float
zero64 = f64 0

-- 0.5
abbrev pub half64 : Float
half64 = f64 0x3FE0_0000_0000_0000

-- 1.0
abbrev pub one64 : Float
one64 = f64 0x3FF0_0000_0000_0000

-- 2.0
abbrev pub two64 : Float
two64 = f64 0x4000_0000_0000_0000

-- "TAU and PI are the f64 with bits 401921FB54442D18 and 400921FB54442D18 (hexadecimal)"
abbrev pub tau : Float
tau = f64 0x4019_21FB_5444_2D18

abbrev pub pi : Float
pi = f64 0x4009_21FB_5444_2D18

-- "Maximum keeps the first unless the second is greater"
abbrev pub larger : Float → Float → Float
larger a b = if a <ᶠ b then b else a

-- |x|: no minus sign, off -0.0 too; a NaN stays a NaN
unfoldable pub magnitude : Float → Float
magnitude nan = nan
magnitude (inf s) = inf false
magnitude (fin s m e) = fin false m e
