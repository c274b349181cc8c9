-- How the code holds what specs/Decoder.antt speaks of, the invariant of its states, and what each call does. Assumes nothing.
use Rattle.std.specs.Prelude.{ℕ, ◌+◌, ◌≤◌, ◌≡◌, Bool, true, false, Some, None, List, length, take, set}
use Rattle.std.specs.Prelude.{if◌then◌else◌}
use Rattle.hexadecimal.specs.Hex.{total}
use Rattle.happenings.specs.Happening.{bytes_in}
use Rattle.happenings.specs.declared.happening.Happening.{Happening}
use Rattle.tide.specs.JudgeRep.{shown_of}
use Rattle.tide.specs.Decoder as plain
unfoldable pub use Rattle.tide.specs.Held.{most_count, held}
use Rattle.tide.specs.declared.decoder.Line.{Line}
use Rattle.tide.specs.declared.decoder.Decoder.{Decoder}
use Rattle.tide.specs.declared.decoder.Step.{Step}
use Rattle.tide.specs.declared.decoder.Fed.{Fed}

-- the first `len` of 64 places, and the flag
abbrev pub line_of : Line → plain.Line
line_of l = record { chars = take l.len l.chars; more = l.more }

-- the same station, line, reading and counts, and whether it skips
abbrev pub decoder_of : Decoder → plain.Decoder
decoder_of d = record { station = d.station; line = line_of d.line; skipping = d.skipping; reading = shown_of d.reading; counts = d.counts }

-- ---- counts that hold
-- a decoder whose counts hold there; it is the same decoder while all counts together are no more (proofs/DecoderLaws.antt, holds)
unfoldable pub holding : plain.Decoder → plain.Decoder
holding d = record { station = d.station; line = d.line; skipping = d.skipping; reading = d.reading; counts = held d.counts }

-- ---- what each value of the code's types keeps (proofs/DecoderRepLaws.antt, sound-of)
pub record SoundLine (l : Line) : Type 0 where
  pub short : l.len ≤ 64
  pub room : length l.chars ≡ 64

pub record Sound (d : Decoder) : Type 0 where
  pub line : SoundLine d.line
  pub places : length d.counts ≡ 12
  pub within : held d.counts ≡ d.counts

-- ---- what the calls do
-- a fresh decoder
pub record Made (station : ℕ) (d : Decoder) : Type 0 where
  pub same : decoder_of d ≡ plain.fresh_decoder station
  pub sound : Sound d

-- whether a move ends a line
abbrev pub is_end : plain.Move → Bool
is_end plain.ends = true
is_end (plain.grows c) = false
is_end plain.loses = false
is_end plain.resumes = false
is_end plain.stays = false

-- one move: the decoder after it, and the answer of the line that it ended, if it ended one
pub record Stepped (d : Decoder) (m : plain.Move) (r : Step) : Type 0 where
  pub same : decoder_of r.decoder ≡ holding (plain.moved (decoder_of d) m)
  pub sound : Sound r.decoder
  pub few : total r.decoder.counts ≤ total d.counts + 1
  pub answer : r.answer ≡ (if is_end m then Some (plain.verdict (decoder_of d)).answer else None)

-- what is heard: the decoder after it, the number of lines ended, the last one's answer (0 also when none ended), and in the lent slice
-- the answers of all of them
pub record Feeds (d : Decoder) (hs : List Happening) (out : List ℕ) (r : Fed) (out' : List ℕ) : Type 0 where
  pub same : decoder_of r.decoder ≡ holding (plain.took_all (decoder_of d) hs)
  pub sound : Sound r.decoder
  pub few : total r.decoder.counts ≤ total d.counts + length (bytes_in hs)
  pub lines : r.lines ≡ length (plain.lines_in (decoder_of d) hs)
  pub last : r.last ≡ plain.last_of 0 (plain.verdicts_in (decoder_of d) hs)
  pub verdicts : out' ≡ plain.laid_in (plain.verdicts_in (decoder_of d) hs) out

-- one happening of several; the answer of a line that it ends stands behind those of the lines before, where there is room
pub record FedOne (f : Fed) (h : Happening) (out : List ℕ) (r : Fed) (out' : List ℕ) : Type 0 where
  pub same : decoder_of r.decoder ≡ holding (plain.took (decoder_of f.decoder) h)
  pub sound : Sound r.decoder
  pub lines : r.lines ≡ f.lines + (if is_end (plain.move_at (decoder_of f.decoder) h) then 1 else 0)
  pub last : r.last ≡ (if is_end (plain.move_at (decoder_of f.decoder) h) then (plain.verdict (decoder_of f.decoder)).answer else f.last)
  pub verdicts : out' ≡ (if is_end (plain.move_at (decoder_of f.decoder) h) then set out f.lines (plain.verdict (decoder_of f.decoder)).answer else out)
