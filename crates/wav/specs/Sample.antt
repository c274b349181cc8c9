-- Samples from their bits, by encoding; each sample is a number of as many bits as its encoding says. Assumes nothing.
use Rattle.std.specs.Prelude.{ℕ, ◌+◌, ◌-◌, ◌*◌, ◌/◌, ◌%◌, ◌^◌, ◌≤◌, ◌≡◌, false, ltb, eqb, Float}
use Rattle.std.specs.Int.Bits.{bit_xor}
use Rattle.std.specs.Float.{binary32, binary64}
use Rattle.std.specs.Float.Ieee.{of_bits, round, neg}
use Rattle.numeric.specs.Convert.{narrowed}
use Rattle.std.specs.Prelude.{if◌then◌else◌}
use Rattle.wav.specs.declared.sample.Encoding.{Encoding}
use Rattle.wav.specs.declared.sample.Encoding.TheVariants as coding

-- a power of two, up to half the range of 32 bits
abbrev pub Power : ℕ → Type 0
Power d = (j : ℕ) × (j ≤ 31) × (d ≡ 2 ^ j)

-- the f32 nearest to n / d, at a tie the even one
unfoldable pub part_of : ℕ → ℕ → Float
part_of n d = round binary32 false n d

-- ---- PCM
-- two's complement, in parts of half the range: from -1 on
unfoldable pub pcm_of : ℕ → ℕ → Float
pcm_of half n = if ltb n half then part_of n half else neg (part_of (half + half - n) half)

-- eight bits have no sign, and 128 is zero
abbrev pub pcm8_of : ℕ → Float
pcm8_of n = pcm_of 128 ((n + 128) % 256)

-- ---- ITU-T G.711, as parts of 32,768: a sign, three bits of segment, four of step
-- µ-law: all bits are inverted; the top bit is the minus
abbrev pub mu_magnitude : ℕ → ℕ
mu_magnitude m = (8 * (m % 16) + 132) * 2 ^ (m / 16) - 132

unfoldable pub mu_of : ℕ → Float
mu_of n =
    let m = 255 - n in
    if ltb m 128 then part_of (mu_magnitude m) 32768 else neg (part_of (mu_magnitude (m - 128)) 32768)

-- A-law: every second bit is inverted, from the lowest on (55 hexadecimal); the top bit is the plus
abbrev pub a_magnitude : ℕ → ℕ
a_magnitude m = if eqb (m / 16) 0 then 16 * (m % 16) + 8 else (16 * (m % 16) + 264) * 2 ^ (m / 16 - 1)

unfoldable pub a_of : ℕ → Float
a_of n =
    if ltb n 128 then neg (part_of (a_magnitude (bit_xor n 0x55)) 32768)
    else part_of (a_magnitude (bit_xor (n - 128) 0x55)) 32768

-- ---- floats: the bits as they stand, 64 of them narrowed to the nearest f32; those of a NaN give a NaN
unfoldable pub float_of : ℕ → Float
float_of bits = of_bits binary32 bits

unfoldable pub float64_of : ℕ → Float
float64_of bits = narrowed (of_bits binary64 bits)

-- ---- all encodings
abbrev pub sample_of : Encoding → ℕ → Float
sample_of coding.MuLaw n = mu_of n
sample_of coding.ALaw n = a_of n
sample_of coding.Pcm8 n = pcm8_of n
sample_of coding.Pcm16 n = pcm_of 32768 n
sample_of coding.Pcm24 n = pcm_of 0x80_0000 n
sample_of coding.Pcm32 n = pcm_of 0x8000_0000 n
sample_of coding.Float32 n = float_of n
sample_of coding.Float64 n = float64_of n

-- the bytes of a sample
abbrev pub bytes_in : Encoding → ℕ
bytes_in coding.MuLaw = 1
bytes_in coding.ALaw = 1
bytes_in coding.Pcm8 = 1
bytes_in coding.Pcm16 = 2
bytes_in coding.Pcm24 = 3
bytes_in coding.Pcm32 = 4
bytes_in coding.Float32 = 4
bytes_in coding.Float64 = 8

-- of the last eight bytes as a number the sample's are the upper ones
abbrev pub upper_of : Encoding → ℕ → ℕ
upper_of k word = word / 256 ^ (8 - bytes_in k)

abbrev pub sample_in : Encoding → ℕ → Float
sample_in k word = sample_of k (upper_of k word)
