-- The header of the recording that `send` writes: as crate `wav` lays it out, one channel. Assumes nothing.
use Rattle.std.specs.Prelude.{ℕ, ◌+◌, ◌*◌, ◌/◌, ◌%◌, List, [], ◌∷◌, slice_set}
use Rattle.wav.specs.declared.sample.Encoding.{Encoding}
use Rattle.wav.specs.declared.sample.Encoding.TheVariants as coding
use Rattle.wav.specs.Recording.{Frame, Recording, plain, header, four}
use Rattle.send_app.specs.declared.words.Kind.{Kind}
use Rattle.send_app.specs.declared.words.Kind.TheVariants as kind

-- the encoding in a recording
abbrev pub encoding_for : Kind → Encoding
encoding_for kind.Float = coding.Float32
encoding_for kind.Pcm16 = coding.Pcm16

-- the bytes of a sample
abbrev pub width_of : Kind → ℕ
width_of kind.Float = 4
width_of kind.Pcm16 = 2

-- a recording of frames, whose header says a rate and a number of samples. Floats have what is expected of every encoding but PCM: an
-- extension, of no bytes, and a chunk "fact" with the number of samples
abbrev pub recording_of : Kind → ℕ → ℕ → List Frame → Recording
recording_of kind.Float rate samples frames =
    record {
      encoding = coding.Float32;
      channels = 1;
      rate = rate;
      total = samples * 4 + 50;
      flow = rate * 4;
      extension = plain (0 ∷ 0 ∷ []);
      before = [];
      between = record { name = 0x7463_6166; body = four samples } ∷ [];
      frames = frames;
    }
recording_of kind.Pcm16 rate samples frames =
    record {
      encoding = coding.Pcm16;
      channels = 1;
      rate = rate;
      total = samples * 2 + 36;
      flow = rate * 2;
      extension = plain [];
      before = [];
      between = [];
      frames = frames;
    }

-- the header, which doesn't depend on the frames behind it
unfoldable pub header_of : Kind → ℕ → ℕ → List ℕ
header_of k rate samples = header (recording_of k rate samples []) (samples * width_of k)

-- ---- how the code makes it: words into a header that has zeros there
abbrev pub blank_recording : Recording → Recording
blank_recording r =
    record {
      encoding = r.encoding;
      channels = 1;
      rate = 0;
      total = 0;
      flow = 0;
      extension = r.extension;
      before = [];
      between = r.between;
      frames = [];
    }

abbrev pub blank_header : Kind → List ℕ
blank_header k = header (blank_recording (recording_of k 0 0 [])) 0

-- a word's four bytes in a list, from a place on
abbrev pub with_word : List ℕ → ℕ → ℕ → List ℕ
with_word xs at n = slice_set (slice_set (slice_set (slice_set xs at (n % 256)) (at + 1) (n / 256 % 256)) (at + 2) (n / 65536 % 256)) (at + 3) (n / 16777216)
