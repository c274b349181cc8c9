-- Document 01's root, in the place of the library's `hypot`. Assumes nothing.
use Rattle.std.specs.Prelude.{ℕ, zero, suc, ◌+◌, ◌/◌, Float}
use Rattle.numeric.specs.F64.{◌⊕◌, ◌⊗◌, ◌⊘◌, ◌=ᶠ◌, f64, bits, zero64, half64}
use Rattle.std.specs.Prelude.{if◌then◌else◌}

-- "v = a × a + b × b"
abbrev pub squares : Float → Float → Float
squares a b = a ⊗ a ⊕ b ⊗ b

-- "g has bits floor(bits(v)/2) + 1FF8000000000000 (hexadecimal)"
abbrev pub guess : Float → Float
guess v = f64 (bits v / 2 + 0x1FF8_0000_0000_0000)

-- "g = 0.5 × (g + v/g)", n times
unfoldable pub improved : ℕ → Float → Float → Float
improved zero v g = g
improved (suc n) v g = improved n v (half64 ⊗ (g ⊕ v ⊘ g))

-- "0.0 if v is 0; else g .., then five times .."
abbrev pub root_of_sum : Float → Float
root_of_sum v = if v =ᶠ zero64 then zero64 else improved 5 v (guess v)

-- "Root of a, b (for `hypot`)"
unfoldable pub root_of : Float → Float → Float
root_of a b = root_of_sum (squares a b)
