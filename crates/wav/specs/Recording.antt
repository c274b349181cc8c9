-- What a recording is, from its writer's side, and what a reader tells of it. Assumes nothing.
use Rattle.std.specs.Prelude.{ℕ, ◌+◌, ◌*◌, ◌/◌, ◌%◌, ◌≤◌, ◌<◌, ◌≡◌, false, List, [], ◌∷◌, ◌++◌, eqb, length, Ok}
use Rattle.std.specs.Prelude.{if◌then◌else◌}
use Rattle.refusal.specs.Refusals.{rate_refused}
use Rattle.wav.specs.Sample.{sample_of, bytes_in}
use Rattle.wav.specs.Wav.{fmt, data', add_byte, finish_of}
use Rattle.wav.specs.declared.sample.Encoding.{Encoding}
use Rattle.wav.specs.declared.sample.Encoding.TheVariants as coding
use Rattle.wav.specs.declared.wav.Wav.{Wav}
use Rattle.wav.specs.declared.wav.Out.{Out}
use Rattle.wav.specs.declared.wav.Out.TheVariants as out

-- ---- numbers, low byte first
unfoldable pub two : ℕ → List ℕ
two n = n % 256 ∷ n / 256 ∷ []

unfoldable pub three : ℕ → List ℕ
three n = n % 256 ∷ n / 256 % 256 ∷ n / 65536 ∷ []

unfoldable pub four : ℕ → List ℕ
four n = n % 256 ∷ n / 256 % 256 ∷ n / 65536 % 256 ∷ n / 16777216 ∷ []

unfoldable pub eight : ℕ → List ℕ
eight n = four (n % 0x1_0000_0000) ++ four (n / 0x1_0000_0000)

-- ---- samples: the encoding's number in a format chunk, and a sample's bytes
abbrev pub tag_of : Encoding → ℕ
tag_of coding.MuLaw = 7
tag_of coding.ALaw = 6
tag_of coding.Pcm8 = 1
tag_of coding.Pcm16 = 1
tag_of coding.Pcm24 = 1
tag_of coding.Pcm32 = 1
tag_of coding.Float32 = 3
tag_of coding.Float64 = 3

abbrev pub written : Encoding → ℕ → List ℕ
written coding.MuLaw n = n ∷ []
written coding.ALaw n = n ∷ []
written coding.Pcm8 n = n ∷ []
written coding.Pcm16 n = two n
written coding.Pcm24 n = three n
written coding.Pcm32 n = four n
written coding.Float32 n = four n
written coding.Float64 n = eight n

-- ---- a frame: the first channel's sample, and the bytes of the others'
pub record Frame : Type 0 where
  pub first : ℕ
  pub others : List ℕ

unfoldable pub frame_bytes : Encoding → List Frame → List ℕ
frame_bytes k [] = []
frame_bytes k (f ∷ fs) = written k f.first ++ (f.others ++ frame_bytes k fs)

-- each has one sample for each channel
unfoldable pub Frames : Encoding → ℕ → List Frame → Type 0
Frames k channels [] = Unit
Frames k channels (f ∷ fs) = (bytes_in k + length f.others ≡ channels * bytes_in k) × Frames k channels fs

-- ---- another chunk: a name that is neither "fmt " nor "data", and bytes
pub record Chunk : Type 0 where
  pub name : ℕ
  pub body : List ℕ

-- a byte more behind an odd number
unfoldable pub pad : ℕ → List ℕ
pad size = if eqb (size % 2) 0 then [] else 0 ∷ []

unfoldable pub chunk_bytes : List Chunk → List ℕ
chunk_bytes [] = []
chunk_bytes (c ∷ cs) = four c.name ++ (four (length c.body) ++ ((c.body ++ pad (length c.body)) ++ chunk_bytes cs))

unfoldable pub Others : List Chunk → Type 0
Others [] = Unit
Others (c ∷ cs) = (c.name ≡ fmt → ⊥) × (c.name ≡ data' → ⊥) × Others cs

-- ---- the format chunk
-- behind its four words: anything, as the size of an extension and its bytes; or what makes a format extensible, eight bytes, the
-- encoding's number and twelve bytes at least
pub data Extension : Type 0 where
  plain : List ℕ → Extension
  extensible : List ℕ → List ℕ → Extension

-- the format's number as it stands in front: that of an extensible one is FFFE
abbrev pub front_tag : Encoding → Extension → ℕ
front_tag k (plain more) = tag_of k
front_tag k (extensible extra more) = 0xFFFE

abbrev pub extension_bytes : Encoding → Extension → List ℕ
extension_bytes k (plain more) = more
extension_bytes k (extensible extra more) = extra ++ (four (tag_of k) ++ more)

abbrev pub Extends : Extension → Type 0
Extends (plain more) = Unit
Extends (extensible extra more) = (length extra ≡ 8) × (12 ≤ length more)

-- ---- a recording. The words `total` (bytes of the file) and `flow` (bytes a second) are not read
pub record Recording : Type 0 where
  pub encoding : Encoding
  pub channels : ℕ
  pub rate : ℕ
  pub total : ℕ
  pub flow : ℕ
  pub extension : Extension
  pub before : List Chunk
  pub between : List Chunk
  pub frames : List Frame

abbrev pub align_of : Recording → ℕ
align_of r = r.channels * bytes_in r.encoding

-- "RIFF", total, "WAVE"
unfoldable pub opening : ℕ → List ℕ
opening total = (0x52 ∷ 0x49 ∷ 0x46 ∷ 0x46 ∷ []) ++ (four total ++ (0x57 ∷ 0x41 ∷ 0x56 ∷ 0x45 ∷ []))

-- "fmt ", size; encoding, channels, rate, flow, bytes of a frame, bits of a sample; what stands behind them
unfoldable pub format_chunk : Encoding → ℕ → ℕ → ℕ → Extension → List ℕ
format_chunk k channels rate flow x =
    let size = 16 + length (extension_bytes k x) in
    (0x66 ∷ 0x6D ∷ 0x74 ∷ 0x20 ∷ [])
    ++ (four size ++ ((two (front_tag k x) ++ two channels) ++ (four rate ++ (four flow ++ ((two (channels * bytes_in k) ++ two (8 * bytes_in k)) ++ (extension_bytes k x ++ pad size))))))

-- "data", size
unfoldable pub data_head : ℕ → List ℕ
data_head size = (0x64 ∷ 0x61 ∷ 0x74 ∷ 0x61 ∷ []) ++ four size

-- all before the frames: 44 bytes where there is no extension and no other chunk
unfoldable pub header : Recording → ℕ → List ℕ
header r size =
    opening r.total ++ (chunk_bytes r.before ++ (format_chunk r.encoding r.channels r.rate r.flow r.extension ++ (chunk_bytes r.between ++ data_head size)))

-- as the reader takes it: a channel at least, frames of fewer than 65,536 bytes, a rate from 8,000 to 48,000
pub record Proper (r : Recording) : Type 0 where
  pub some : 0 < r.channels
  pub few : align_of r < 65536
  pub rate : rate_refused r.rate ≡ false
  pub extension : Extends r.extension
  pub before : Others r.before
  pub between : Others r.between
  pub frames : Frames r.encoding r.channels r.frames

-- ---- what a reader tells
abbrev pub emits : Out → List Out
emits out.Going = []
emits (out.Start rate) = out.Start rate ∷ []
emits (out.Sample x) = out.Sample x ∷ []
emits (out.Bad f) = out.Bad f ∷ []

unfoldable pub outs : Wav → List ℕ → List Out
outs w [] = []
outs w (b ∷ bs) = emits (add_byte w b).out ++ outs (add_byte w b).state bs

unfoldable pub after : Wav → List ℕ → Wav
after w [] = w
after w (b ∷ bs) = after (add_byte w b).state bs

-- the first channel
unfoldable pub samples : Encoding → List Frame → List Out
samples k [] = []
samples k (f ∷ fs) = out.Sample (sample_of k f.first) ∷ samples k fs

-- all that a reader tells of these bytes, up to the end of the file, is this, and the recording is whole
pub record Tells (w : Wav) (bs : List ℕ) (os : List Out) : Type 0 where
  pub emits : outs w bs ≡ os
  pub whole : finish_of (after w bs) ≡ Ok tt
