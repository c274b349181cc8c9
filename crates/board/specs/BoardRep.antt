-- How the code's `Board` holds what specs/Plain.antt speaks of, the invariant of its states, and what each call does. Assumes nothing.
use Rattle.refusal.specs.declared.Refusal.{Refusal}
use Rattle.std.specs.Prelude.{ℕ, ◌+◌, ◌*◌, ◌≤◌, ◌≡◌, List, length, Float, Result, Ok, Err}
use Rattle.refusal.specs.Refusals.{number_of, reply_in}
use Rattle.framing.specs.Framing as framing
use Rattle.happenings.specs.Happening.{bytes_in, bad_stops_in}
use Rattle.happenings.specs.declared.happening.Happening.{Happening}
use Rattle.modem.specs.ListenerRep.{demod_of, ListenerSound}
use Rattle.bell103.specs.declared.Role.{Role}
use Rattle.modem.specs.declared.listener.Listener.{Listener}
use Rattle.hexadecimal.specs.Hex.{total}
use Rattle.tide.specs.Decoder.{took_all, lines_in, verdicts_in, last_of, laid_in}
use Rattle.tide.specs.DecoderRep.{decoder_of, Sound}
use Rattle.tide.specs.declared.decoder.Decoder.{Decoder}
use Rattle.board.specs.Plain as plain
use Rattle.board.specs.declared.board.Board.{Board}
use Rattle.board.specs.declared.board.Summary.{Summary}
use Rattle.refusal.specs.declared.Answered.{Answered}

-- what `Board` is in the definitions
unfoldable pub plain_of : Board → plain.Plain
plain_of b = plain.plain (demod_of b.listener) b.listener.accepted (decoder_of b.decoder)

-- what each case of an answer gives
abbrev pub summary_of : Summary → plain.Summary
summary_of x = record { bytes = x.bytes; lines = x.lines; last = x.last; bad_stops = x.bad_stops }

abbrev pub answer_of : Result Summary Refusal → plain.Answer
answer_of (Err r) = plain.refused (number_of r)
answer_of (Ok x) = plain.heard (summary_of x)

-- ten for each line judged, and the bits of a byte begun, are at most three for each sample accepted: a byte has ten bits, and a sample makes
-- three steps at the most. So no count passes its 64 bits
unfoldable pub Few : Listener → Decoder → Type 0
Few l d = 10 * total d.counts + framing.held (demod_of l).inner.deframer ≤ 3 * l.accepted

-- ---- what each value of the type keeps (proofs/BoardRepLaws.antt, board-sound-of)
pub record BoardSound (b : Board) : Type 0 where
  pub listener : ListenerSound b.listener
  pub decoder : Sound b.decoder
  pub few : Few b.listener b.decoder

-- ---- what the calls do
-- `new`
pub record Makes (rate station : ℕ) (role : Role) (r : Answered Board Unit) : Type 0 where
  pub answer : reply_in r.answer ≡ (plain.new_of rate station role).answer
  pub state : plain_of r.state ≡ (plain.new_of rate station role).state

-- `write`
pub record Writes (b : Board) (s : List Float) (r : Answered Board Summary) : Type 0 where
  pub answer : answer_of r.answer ≡ plain.answer (plain_of b) s
  pub state : plain_of r.state ≡ plain.after (plain_of b) s

-- `write_into`: the answers of the lines that the write ends, at the front of a lent slice
pub record WritesInto (b : Board) (s : List Float) (out : List ℕ) (r : Answered Board Summary) (out' : List ℕ) : Type 0 where
  pub writes : Writes b s r
  pub verdicts : out' ≡ laid_in (plain.verdicts (plain_of b) s) out

-- what the listener that heard it leaves for what was heard: each byte of it may end a line
pub record Judgeable (l : Listener) (d : Decoder) (hs : List Happening) : Type 0 where
  pub few : 10 * (total d.counts + length (bytes_in hs)) + framing.held (demod_of l).inner.deframer ≤ 3 * l.accepted

-- what was heard goes to the decoder, in order
pub record JudgesAll (l : Listener) (d : Decoder) (hs : List Happening) (out : List ℕ) (r : Answered Board Summary) (out' : List ℕ) : Type 0 where
  pub answer :
      answer_of r.answer
      ≡ plain.heard (
      record {
        bytes = length (bytes_in hs);
        lines = length (lines_in (decoder_of d) hs);
        last = last_of 0 (verdicts_in (decoder_of d) hs);
        bad_stops = bad_stops_in hs;
      })
  pub decoder : decoder_of r.state.decoder ≡ took_all (decoder_of d) hs
  pub listener : r.state.listener ≡ l
  pub verdicts : out' ≡ laid_in (verdicts_in (decoder_of d) hs) out
