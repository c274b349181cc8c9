-- Samples as bytes. Assumes nothing.
use Rattle.std.specs.Prelude.{ℕ, ◌+◌, ◌-◌, ◌/◌, ◌%◌, List, [], ◌∷◌, ◌++◌, ℤ, pos, negsuc, slice_set, to_bits, Float}
use Rattle.std.specs.Float.{binary32}
use Rattle.std.specs.Float.Ieee.{neg, to_unsigned}
use Rattle.numeric.specs.F64.{◌<ᶠ◌, ◌⊗◌, f64, zero64, one64}
use Rattle.std.specs.Prelude.{if◌then◌else◌}
use Rattle.wav.specs.Recording.{two, four}
use Rattle.send_app.specs.Header.{with_word}
use Rattle.send_app.specs.declared.words.Kind.{Kind}
use Rattle.send_app.specs.declared.words.Kind.TheVariants as kind

-- the whole number nearest to 32,767 × y, half up, for a y from 0 on: (⌊65,534 × y⌋ + 1) / 2, since an f64 holds the product of an f32; from 1
-- on it is 32,767
abbrev pub nearest_to : Float → ℕ
nearest_to twice =
    if neg one64 <ᶠ twice then (if twice <ᶠ f64 0x40EF_FFC0_0000_0000 then (to_unsigned 64 twice + 1) / 2 else 32767)
    else 0

unfoldable pub nearest16 : Float → ℕ
nearest16 y = nearest_to (y ⊗ f64 0x40EF_FFC0_0000_0000)

-- the same of any sample, half away from zero, in two's complement
unfoldable pub pcm16_of : Float → ℕ
pcm16_of x = if x <ᶠ zero64 then (65536 - nearest16 (neg x)) % 65536 else nearest16 x

-- a sample's bytes: its 32 bits as they stand, or its 16 bits
unfoldable pub bytes_of : Kind → Float → List ℕ
bytes_of kind.Float x = four (to_bits binary32 x)
bytes_of kind.Pcm16 x = two (pcm16_of x)

-- samples' bytes, one sample after the other
unfoldable pub in_order : {A : Type 0} → (A → List ℕ) → List A → List ℕ
in_order bytes [] = []
in_order bytes (x ∷ xs) = bytes x ++ in_order bytes xs

-- the bytes of a block of samples
abbrev pub block_bytes : Kind → List Float → List ℕ
block_bytes k xs = in_order (bytes_of k) xs

-- ---- the table's samples, each as it stands
-- 16 bits in two's complement: the whole number modulo 65,536
unfoldable pub sixteen_of : ℤ → ℕ
sixteen_of (pos n) = n % 65536
sixteen_of (negsuc n) = 65535 - n % 65536

abbrev pub whole_bytes : ℤ → List ℕ
whole_bytes x = two (sixteen_of x)

-- the bytes of a block of the table's samples
abbrev pub table_bytes : List ℤ → List ℕ
table_bytes xs = in_order whole_bytes xs

-- ---- how the code lays them: a sample's bytes in a list, from a place on
abbrev pub with_half : List ℕ → ℕ → ℕ → List ℕ
with_half xs at n = slice_set (slice_set xs at (n % 256)) (at + 1) (n / 256)

abbrev pub placed : Kind → List ℕ → ℕ → Float → List ℕ
placed kind.Float xs at x = with_word xs at (to_bits binary32 x)
placed kind.Pcm16 xs at x = with_half xs at (pcm16_of x)
