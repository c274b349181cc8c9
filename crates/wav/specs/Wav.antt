-- How a WAV recording is read, byte by byte. It is "RIFF", a length, "WAVE", and then chunks: a name of four letters, a size, and so many
-- bytes, with one more behind an odd number. The chunk "fmt " gives the encoding, the chunk "data" the frames, each one sample for each
-- channel. Numbers have their low byte first; a name is read as a number of four bytes too. Assumes nothing.
use Rattle.std.specs.Prelude.{ℕ, ◌+◌, ◌-◌, ◌*◌, ◌/◌, ◌%◌, Bool, true, false, ltb, eqb, Result, Ok, Err, Option, Some, None}
use Rattle.std.specs.Prelude.{if◌then◌else◌}
use Rattle.refusal.specs.Refusals.{rate_refused}
use Rattle.wav.specs.Sample.{bytes_in, sample_in}
use Rattle.wav.specs.Words.{shifted, last_four, encoding_of, is_endless}
use Rattle.wav.specs.declared.sample.Encoding.{Encoding}
use Rattle.wav.specs.declared.sample.Encoding.TheVariants as coding
use Rattle.wav.specs.declared.wav.Wav.{Wav}
use Rattle.wav.specs.declared.wav.Step.{Step}
use Rattle.wav.specs.declared.wav.Fault.{Fault}
use Rattle.wav.specs.declared.wav.Fault.TheVariants as fault
use Rattle.wav.specs.declared.wav.Place.{Place}
use Rattle.wav.specs.declared.wav.Place.TheVariants as at
use Rattle.wav.specs.declared.wav.Out.{Out}
use Rattle.wav.specs.declared.wav.Out.TheVariants as out

-- ---- the names, as numbers
-- "RIFF"
abbrev pub riff : ℕ
riff = 0x4646_4952

-- "WAVE"
abbrev pub wave : ℕ
wave = 0x4556_4157

-- "fmt "
abbrev pub fmt : ℕ
fmt = 0x2074_6D66

-- "data"
abbrev pub data' : ℕ
data' = 0x6174_6164

-- ---- small things
-- a chunk's size with the byte behind an odd number
abbrev pub padded : ℕ → ℕ
padded size = size + size % 2

-- ---- the reader's states
-- before the first byte
abbrev pub fresh_wav : Wav
fresh_wav = record { place = at.Riff; left = 4; word = 0; rest = 0; format = 0; rate = 0; shape = 0; align = 0; encoding = coding.Pcm16; width = 2; frames = 0 }

-- before the first of "raw 32-bit little-endian floats": frames of four bytes, until the end of the file
abbrev pub raw_wav : Wav
raw_wav = record { place = at.Sample; left = 4; word = 0; rest = 0; format = 0; rate = 0; shape = 0; align = 4; encoding = coding.Float32; width = 4; frames = 0 }

-- before the first of raw PCM of 16 bits, low byte first: frames of two bytes, until the end of the file
abbrev pub raw16_wav : Wav
raw16_wav = record { place = at.Sample; left = 2; word = 0; rest = 0; format = 0; rate = 0; shape = 0; align = 2; encoding = coding.Pcm16; width = 2; frames = 0 }

-- on to a place of so many bytes
abbrev pub moved : Wav → Place → ℕ → Wav
moved w place left =
    record {
      place = place;
      left = left;
      word = 0;
      rest = w.rest;
      format = w.format;
      rate = w.rate;
      shape = w.shape;
      align = w.align;
      encoding = w.encoding;
      width = w.width;
      frames = w.frames;
    }

-- with these words of the format chunk
abbrev pub words : Wav → ℕ → ℕ → ℕ → ℕ → Wav
words w rest format rate shape =
    record {
      place = w.place;
      left = w.left;
      word = w.word;
      rest = rest;
      format = format;
      rate = rate;
      shape = shape;
      align = w.align;
      encoding = w.encoding;
      width = w.width;
      frames = w.frames;
    }

-- with frames of so many bytes, and samples of this encoding
abbrev pub framed : Wav → ℕ → Encoding → Wav
framed w align k =
    record {
      place = w.place;
      left = w.left;
      word = w.word;
      rest = w.rest;
      format = w.format;
      rate = w.rate;
      shape = w.shape;
      align = align;
      encoding = k;
      width = bytes_in k;
      frames = w.frames;
    }

-- with so many frames to come
abbrev pub counting : Wav → ℕ → Wav
counting w frames =
    record {
      place = w.place;
      left = w.left;
      word = w.word;
      rest = w.rest;
      format = w.format;
      rate = w.rate;
      shape = w.shape;
      align = w.align;
      encoding = w.encoding;
      width = w.width;
      frames = frames;
    }

abbrev pub step : Wav → Out → Step
step w o = record { state = w; out = o }

abbrev pub going : Wav → Place → ℕ → Step
going w place left = step (moved w place left) out.Going

-- refused, and so at each byte from here on
abbrev pub bad : Wav → Fault → Step
bad w f = step (moved w (at.Bad f) 1) (out.Bad f)

-- ---- what each word does
-- a word that is the same in every recording
unfoldable pub fixed : Wav → Bool → Place → Fault → Step
fixed w true next f = going w next 4
fixed w false next f = bad w f

-- the rest of a chunk, or a chunk of another name, is skipped
unfoldable pub skip : Wav → ℕ → Step
skip w n = if eqb n 0 then going w at.Name 4 else going w at.Skip n

-- a chunk's name says what its size is for
unfoldable pub named : Wav → ℕ → Step
named w name =
    if eqb name fmt then going w at.FormatSize 4
    else if eqb name data' then going w at.DataSize 4
    else going w at.OtherSize 4

-- a format has 16 bytes at least; the rest of its chunk is skipped
unfoldable pub format_size : Wav → ℕ → Step
format_size w size =
    if ltb size 16 then bad w fault.FormatSize
    else going (words w (size - 16 + size % 2) w.format w.rate w.shape) at.Format 4

-- encoding, and channels above it
abbrev pub format_word : Wav → ℕ → Step
format_word w word = going (words w w.rest word w.rate w.shape) at.Rate 4

-- frames a second
abbrev pub rate_word : Wav → ℕ → Step
rate_word w word = going (words w w.rest w.format word w.shape) at.Flow 4

-- the format is known: it is one that is read, or the first of these faults that it has
unfoldable pub settle_as : Wav → Encoding → Step
settle_as w k =
    let align = w.shape % 65536 in
    let channels = w.format / 65536 in
    if eqb channels 0 then bad w fault.Channels
    else if rate_refused w.rate then bad w fault.Rate
    else if eqb align (channels * bytes_in k) then skip (framed w align k) w.rest
    else bad w fault.Align

abbrev pub settle_known : Option Encoding → Wav → Step
settle_known None w = bad w fault.Encoding
settle_known (Some k) w = settle_as w k

unfoldable pub settle : Wav → ℕ → Step
settle w tag = settle_known (encoding_of tag (w.shape / 65536)) w

-- bytes of a frame, and bits of a sample above them. An extensible format (FFFE) has its encoding in two bytes further on
abbrev pub shaped : Wav → ℕ → ℕ → Wav
shaped w word rest = words w rest w.format w.rate word

unfoldable pub shape_word : Wav → ℕ → Step
shape_word w word =
    if eqb (w.format % 65536) 0xFFFE
    then (if ltb w.rest 24 then bad (shaped w word w.rest) fault.FormatSize else going (shaped w word (w.rest - 12)) at.Extra 8)
    else settle (shaped w word w.rest) (w.format % 65536)

-- the header is read: so many frames, 0 where they run to the end of the file
abbrev pub start : Wav → ℕ → Step
start w frames = step (moved (counting w frames) at.Sample w.width) (out.Start w.rate)

unfoldable pub data_size : Wav → ℕ → Step
data_size w size =
    if eqb w.align 0 then bad w fault.NoFormat
    else if is_endless size then start w 0
    else if eqb (size % w.align) 0 then start w (size / w.align)
    else bad w fault.Ragged

-- ---- frames
-- behind the last frame nothing is read
unfoldable pub next_frame : Wav → Wav
next_frame w =
    if eqb w.frames 0 then moved w at.Sample w.width
    else if eqb w.frames 1 then moved w at.Over 1
    else moved (counting w (w.frames - 1)) at.Sample w.width

-- "mono or the first channel": the others' bytes of the frame are skipped
unfoldable pub over_others : Wav → Wav
over_others w = if ltb w.width w.align then moved w at.Rest (w.align - w.width) else next_frame w

unfoldable pub sampled : Wav → ℕ → Step
sampled w word = step (over_others w) (out.Sample (sample_in w.encoding word))

abbrev pub frame_over : Wav → Step
frame_over w = step (next_frame w) out.Going

-- ---- one byte
-- what the last byte of each place does: n is the number of the last four bytes, `word` of the last eight
unfoldable pub done : Place → Wav → ℕ → ℕ → Step
done at.Riff w n word = fixed w (eqb n riff) at.Length fault.Riff
done at.Length w n word = going w at.Wave 4
done at.Wave w n word = fixed w (eqb n wave) at.Name fault.Wave
done at.Name w n word = named w n
done at.FormatSize w n word = format_size w n
done at.DataSize w n word = data_size w n
done at.OtherSize w n word = skip w (padded n)
done at.Format w n word = format_word w n
done at.Rate w n word = rate_word w n
done at.Flow w n word = going w at.Align 4
done at.Align w n word = shape_word w n
done at.Extra w n word = going w at.Sub 4
done at.Sub w n word = settle w (n % 65536)
done at.Skip w n word = going w at.Name 4
done at.Sample w n word = sampled w word
done at.Rest w n word = frame_over w
done at.Over w n word = going w at.Over 1
done (at.Bad f) w n word = bad w f

unfoldable pub add_byte : Wav → ℕ → Step
add_byte w b =
    if ltb 1 w.left
    then step
    (record {
      place = w.place;
      left = w.left - 1;
      word = shifted w.word b;
      rest = w.rest;
      format = w.format;
      rate = w.rate;
      shape = w.shape;
      align = w.align;
      encoding = w.encoding;
      width = w.width;
      frames = w.frames;
    }) out.Going
    else done w.place w (last_four (shifted w.word b)) (shifted w.word b)

-- ---- the end of the file
-- between frames: too early where the header promised more
unfoldable pub finish_frame : Wav → Result Unit Fault
finish_frame w =
    if eqb w.left w.width then (if eqb w.frames 0 then (Ok tt) else Err fault.DataCut)
    else Err fault.FrameCut

abbrev pub finish_at : Place → Wav → Result Unit Fault
finish_at at.Sample w = finish_frame w
finish_at at.Rest w = Err fault.FrameCut
finish_at at.Over w = Ok tt
finish_at (at.Bad f) w = Err f
finish_at at.Riff w = Err fault.HeaderCut
finish_at at.Length w = Err fault.HeaderCut
finish_at at.Wave w = Err fault.HeaderCut
finish_at at.Name w = Err fault.HeaderCut
finish_at at.FormatSize w = Err fault.HeaderCut
finish_at at.DataSize w = Err fault.HeaderCut
finish_at at.OtherSize w = Err fault.HeaderCut
finish_at at.Format w = Err fault.HeaderCut
finish_at at.Rate w = Err fault.HeaderCut
finish_at at.Flow w = Err fault.HeaderCut
finish_at at.Align w = Err fault.HeaderCut
finish_at at.Extra w = Err fault.HeaderCut
finish_at at.Sub w = Err fault.HeaderCut
finish_at at.Skip w = Err fault.HeaderCut

unfoldable pub finish_of : Wav → Result Unit Fault
finish_of w = finish_at w.place w
