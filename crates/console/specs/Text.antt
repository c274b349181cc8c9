-- Text judged line by line: what a byte and what a block of bytes do to the decoder and to the number of lines. Assumes nothing.
use Rattle.std.specs.Prelude.{ℕ, ◌+◌, min, ◌≡◌, List, length}
use Rattle.std.specs.Prelude.{if◌then◌else◌}
use Rattle.happenings.specs.Happening.{typed}
use Rattle.happenings.specs.declared.happening.Happening.TheVariants.{Byte}
use Rattle.tide.specs.Decoder.{fresh_decoder, move_at, took, took_all, lines_in}
use Rattle.tide.specs.DecoderRep.{decoder_of, most_count, holding, Sound, is_end}
use Rattle.console.specs.declared.text.Text.{Text}

-- one byte
pub record Taken (t : Text) (c : ℕ) (r : Text) : Type 0 where
  pub decoder : decoder_of r.decoder ≡ holding (took (decoder_of t.decoder) (Byte c))
  pub lines : r.lines ≡ (if is_end (move_at (decoder_of t.decoder) (Byte c)) then min (t.lines + 1) most_count else t.lines)
  pub sound : Sound r.decoder

-- bytes, in order: the lines are those that they end
pub record Read (t : Text) (bs : List ℕ) (r : Text) : Type 0 where
  pub decoder : decoder_of r.decoder ≡ holding (took_all (decoder_of t.decoder) (typed bs))
  pub lines : r.lines ≡ min (t.lines + length (lines_in (decoder_of t.decoder) (typed bs))) most_count
  pub sound : Sound r.decoder

-- "reads text from standard input": there are bytes, those read, and this is what they do
pub record ReadSome (t r : Text) : Type 0 where
  pub bytes : List ℕ
  pub read : Read t bytes r

-- the whole of the text read, judged for a station by a fresh decoder, and the number of its lines
pub record Judges (station : ℕ) (r : Text) : Type 0 where
  pub bytes : List ℕ
  pub decoder : decoder_of r.decoder ≡ holding (took_all (fresh_decoder station) (typed bytes))
  pub lines : r.lines ≡ min (length (lines_in (fresh_decoder station) (typed bytes))) most_count
