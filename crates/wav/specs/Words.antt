-- What the words of a header say. Assumes nothing.
use Rattle.wav.specs.declared.sample.Encoding.{Encoding}
use Rattle.std.specs.Prelude.{ℕ, ◌+◌, ◌*◌, ◌/◌, Bool, ◌||◌, leb, eqb, Option, Some, None}
use Rattle.std.specs.Prelude.{if◌then◌else◌}
use Rattle.wav.specs.declared.sample.Encoding.TheVariants as coding

-- the last eight bytes as a number, once one byte more is in
abbrev pub shifted : ℕ → ℕ → ℕ
shifted word b = word / 256 + b * 0x100_0000_0000_0000

-- the last four of them
abbrev pub last_four : ℕ → ℕ
last_four word = word / 0x1_0000_0000

-- PCM has 8, 16, 24 or 32 bits
unfoldable pub pcm_known : ℕ → Option Encoding
pcm_known bits =
    if eqb bits 8 then Some coding.Pcm8
    else if eqb bits 16 then Some coding.Pcm16
    else if eqb bits 24 then Some coding.Pcm24
    else if eqb bits 32 then Some coding.Pcm32
    else None

-- floats have 32 or 64
unfoldable pub float_known : ℕ → Option Encoding
float_known bits =
    if eqb bits 32 then Some coding.Float32
    else if eqb bits 64 then Some coding.Float64
    else None

-- G.711 has 8
unfoldable pub only8 : ℕ → Option Encoding → Option Encoding
only8 bits k = if eqb bits 8 then k else None

-- the format's number: 1 is PCM, 3 IEEE float, 6 A-law, 7 µ-law
unfoldable pub encoding_of : ℕ → ℕ → Option Encoding
encoding_of tag bits =
    if eqb tag 1 then pcm_known bits
    else if eqb tag 3 then float_known bits
    else if eqb tag 6 then only8 bits (Some coding.ALaw)
    else if eqb tag 7 then only8 bits (Some coding.MuLaw)
    else None

-- data that run to the end of the file: a recorder that can't know their size says 0, or something near 2 or 4 GB
unfoldable pub is_endless : ℕ → Bool
is_endless size = eqb size 0 || leb 0x7FFF_F000 size
