-- Samples gathered into blocks. Assumes nothing.
use Rattle.std.specs.Prelude.{ℕ, ◌+◌, ◌<◌, ◌≡◌, Bool, true, false, List, eqb, length, set, Float}
use Rattle.std.specs.Prelude.{if◌then◌else◌}
use Rattle.wav.specs.Wav.{add_byte}
use Rattle.wav.specs.declared.wav.Wav.{Wav}
use Rattle.wav.specs.declared.wav.Out.{Out}
use Rattle.wav.specs.declared.wav.Out.TheVariants as out
use Rattle.listen_app.specs.declared.block_reader.Progress.{Progress}
use Rattle.listen_app.specs.declared.block_reader.Progress.TheVariants as progress

-- the most samples that a write takes
abbrev pub block_length : ℕ
block_length = 1024

-- a reader, the block that its samples fill, how many of them are in, and what the last byte brought
pub record Gathered : Type 0 where
  pub wav : Wav
  pub block : List Float
  pub n : ℕ
  pub progress : Progress

-- the block has all its places, and one of them is free
pub record BlockReaderSound (block : List Float) (n : ℕ) : Type 0 where
  pub room : length block ≡ block_length
  pub few : n < block_length

-- the reader's next state, with this progress
abbrev pub after_progress : Gathered → Wav → Progress → Gathered
after_progress e w what = record { wav = w; block = e.block; n = e.n; progress = what }

-- one sample more: the last fills the block
unfoldable pub with_sample : Gathered → Wav → Float → Gathered
with_sample e w x =
    if eqb (e.n + 1) block_length
    then record { wav = w; block = set e.block e.n x; n = 0; progress = progress.Block }
    else record { wav = w; block = set e.block e.n x; n = e.n + 1; progress = progress.None }

-- what the reader gives
unfoldable pub reader_out : Out → Gathered → Wav → Gathered
reader_out out.Going e w = after_progress e w progress.None
reader_out (out.Start rate) e w = after_progress e w (progress.Start rate)
reader_out (out.Sample x) e w = with_sample e w x
reader_out (out.Bad f) e w = after_progress e w (progress.Bad f)

-- one byte
unfoldable pub reader_byte : Gathered → ℕ → Gathered
reader_byte e b = reader_out (add_byte e.wav b).out e (add_byte e.wav b).state

abbrev pub is_quiet : Progress → Bool
is_quiet progress.None = true
is_quiet (progress.Start rate) = false
is_quiet progress.Block = false
is_quiet (progress.Bad f) = false
