-- The plain board: from samples to a reading. It is fed the calls' arguments alone. Assumes nothing.
use Rattle.std.specs.Prelude.{ℕ, ◌+◌, Bool, not, List, [], ◌∷◌, ◌++◌, ltb, eqb, length, Float}
use Rattle.std.specs.Prelude.{if◌then◌else◌}
use Rattle.bell103.specs.declared.Role.{Role}
use Rattle.refusal.specs.Refusals.{Reply, reply_of, first, rate_refused}
use Rattle.happenings.specs.Happening.{bytes_in, bad_stops_in}
use Rattle.happenings.specs.declared.happening.Happening.{Happening}
use Rattle.demodulation.specs.declared.kind.Kind.TheVariants.{ForBoard}
use Rattle.numeric.specs.Convert.{all_in_range}
use Rattle.modem.specs.Listener.{Demod, Heard, heard_by, fresh_demod, admitted}
use Rattle.tide.specs.Judge.{Shown}
use Rattle.tide.specs.Decoder.{Line, Decoder, fresh_decoder, took_all, lines_in, verdicts_in, last_of}

-- "State: station, receiver, samples accepted (for 31), the unended line (its first 64 characters and whether there were more),
-- reading (W and level) or none, one count for each line answer"; and "The plain board gains one yes or no, skipping"
pub record Plain : Type 0 where
  pub station : ℕ
  pub receiver : Demod
  pub accepted : ℕ
  pub line : Line
  pub skipping : Bool
  pub reading : Shown
  pub counts : List ℕ

-- what collects and judges the lines: all but the receiver and the samples accepted
abbrev pub decoder : Plain → Decoder
decoder b = record { station = b.station; line = b.line; skipping = b.skipping; reading = b.reading; counts = b.counts }

abbrev pub plain : Demod → ℕ → Decoder → Plain
plain d n k =
    record {
      station = k.station;
      receiver = d;
      accepted = n;
      line = k.line;
      skipping = k.skipping;
      reading = k.reading;
      counts = k.counts;
    }

-- "A fresh one takes rate, station and role, and has an empty line, no reading and all counts 0"; it does not skip
unfoldable pub fresh : ℕ → ℕ → Role → Plain
fresh rate station role = plain (fresh_demod ForBoard rate role) 0 (fresh_decoder station)

-- ---- `new`
-- "1 rate outside 8,000 to 48,000. 2 station 0"; 0 where neither applies
unfoldable pub new_number : ℕ → ℕ → ℕ
new_number rate station = first (rate_refused rate) 1 (first (eqb station 0) 2 0)

pub record Made : Type 0 where
  pub answer : Reply Unit
  pub state : Plain

-- refused it gives a state all the same: 1 the fresh one at 8,000, 2 the fresh one of station 0
unfoldable pub new_of : ℕ → ℕ → Role → Made
new_of rate station role = record { answer = reply_of (new_number rate station); state = fresh (admitted rate) station role }

-- ---- `write`
-- "3 more than 1,024 samples. 4 a sample not finite or beyond ±1. 31 the call would pass 4,294,967,296 samples for this receiver"; 0 where
-- none applies. The board has no queue, and 32 is never its number (proofs/PlainLaws.antt, never-32)
unfoldable pub number : Plain → List Float → ℕ
number b s =
    first (ltb 1024 (length s)) 3
    (first (not (all_in_range s)) 4
    (first (ltb 4294967296 (b.accepted + length s)) 31 0))

unfoldable pub accepts : Plain → List Float → Bool
accepts b s = eqb (number b s) 0

-- "runs the steps above": the receiver after a write, and all that happened in it, in order
unfoldable pub heard_of : Plain → List Float → Heard
heard_of b s = heard_by b.receiver s

-- what happened in a write, and nothing where it is refused
unfoldable pub heard_in : Plain → List Float → List Happening
heard_in b s = if accepts b s then (heard_of b s).happenings else []

-- an accepted write "runs the steps above, deframes the sliced bits and adds each byte to the line"; at a loss of the carrier, in its place
-- among them, it "drops .. the unended line, and skips all bytes up to and including the next 0A"
unfoldable pub took : Plain → List Float → Plain
took b s = plain (heard_of b s).after (b.accepted + length s) (took_all (decoder b) (heard_of b s).happenings)

-- "A refused write gives its number alone and changes nothing"
unfoldable pub after : Plain → List Float → Plain
after b s = if accepts b s then took b s else b

-- the lines that a write ends, and the answers that they get
unfoldable pub lines : Plain → List Float → List Line
lines b s = lines_in (decoder b) (heard_in b s)

unfoldable pub verdicts : Plain → List Float → List ℕ
verdicts b s = verdicts_in (decoder b) (heard_in b s)

-- "bytes heard (yielded by the deframer), lines ended (judged) and the last line's answer (0 also when none ended), all of that write alone";
-- "the number of bad stops in each accepted write's answer"
pub record Summary : Type 0 where
  pub bytes : ℕ
  pub lines : ℕ
  pub last : ℕ
  pub bad_stops : ℕ

unfoldable pub summary : Plain → List Float → Summary
summary b s =
    record {
      bytes = length (bytes_in (heard_in b s));
      lines = length (lines b s);
      last = last_of 0 (verdicts b s);
      bad_stops = bad_stops_in (heard_in b s);
    }

-- "A refused write gives its number alone. An accepted write's answer gives" its summary
pub data Answer : Type 0 where
  refused : ℕ → Answer
  heard : Summary → Answer

unfoldable pub answer : Plain → List Float → Answer
answer b s = if accepts b s then heard (summary b s) else refused (number b s)

-- ---- a list of writes, each on the board as the one before left it
unfoldable pub after_all : Plain → List (List Float) → Plain
after_all b [] = b
after_all b (s ∷ ws) = after_all (after b s) ws

-- the writes among them that are accepted
unfoldable pub taken_in : Plain → List (List Float) → List (List Float)
taken_in b [] = []
taken_in b (s ∷ ws) = (if accepts b s then s ∷ [] else []) ++ taken_in (after b s) ws

-- all that happened in them
unfoldable pub heard_all : Plain → List (List Float) → List Happening
heard_all b [] = []
heard_all b (s ∷ ws) = heard_in b s ++ heard_all (after b s) ws

-- the lines judged, and their answers
unfoldable pub lines_all : Plain → List (List Float) → List Line
lines_all b [] = []
lines_all b (s ∷ ws) = lines b s ++ lines_all (after b s) ws

unfoldable pub verdicts_all : Plain → List (List Float) → List ℕ
verdicts_all b [] = []
verdicts_all b (s ∷ ws) = verdicts b s ++ verdicts_all (after b s) ws

-- what the writes were answered
unfoldable pub answers_all : Plain → List (List Float) → List Answer
answers_all b [] = []
answers_all b (s ∷ ws) = answer b s ∷ answers_all (after b s) ws

-- "lines ended, summed over the accepted writes"
unfoldable pub ended_in : List Answer → ℕ
ended_in [] = 0
ended_in (refused n ∷ l) = ended_in l
ended_in (heard x ∷ l) = x.lines + ended_in l

-- bad stops, summed over the accepted writes
unfoldable pub bad_stops_given : List Answer → ℕ
bad_stops_given [] = 0
bad_stops_given (refused n ∷ l) = bad_stops_given l
bad_stops_given (heard x ∷ l) = x.bad_stops + bad_stops_given l
