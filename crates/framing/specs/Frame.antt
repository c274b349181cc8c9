-- 8-N-1 framing: "Start space, eight data bits lowest first, stop mark". Assumes nothing.
use Rattle.std.specs.Prelude.{ℕ, ◌+◌, ◌/◌, ◌%◌, ◌^◌, min, ◌≡◌, List, [], ◌∷◌, ◌++◌, Bool, true, false, ltb, eqb}
use Rattle.std.specs.Int.Bits.{bit_or}
use Rattle.std.specs.Prelude.{if◌then◌else◌}
use Rattle.framing.specs.declared.frame.Deframer.{Deframer}
use Rattle.framing.specs.declared.frame.Heard.{Heard}
use Rattle.framing.specs.declared.frame.Heard.TheVariants.{Byte, Waiting, BadStop}
use Rattle.framing.specs.declared.frame.Pushed.{Pushed}

-- a bit on the line: mark is binary 1
abbrev pub mark : Bool
mark = true

abbrev pub space : Bool
space = false

-- bit k of a byte, which has the weight 2^k
abbrev pub bit_of : ℕ → ℕ → Bool
bit_of b k = eqb (b / 2 ^ k % 2) 1

-- "Start space, eight data bits lowest first, stop mark"
abbrev pub frame_of : ℕ → List Bool
frame_of b = space ∷ bit_of b 0 ∷ bit_of b 1 ∷ bit_of b 2 ∷ bit_of b 3 ∷ bit_of b 4 ∷ bit_of b 5 ∷ bit_of b 6 ∷ bit_of b 7 ∷ mark ∷ []

-- ---- the deframer, bit by bit, in any state
abbrev pub fresh_deframer : Deframer
fresh_deframer = record { in_frame = false; bit_count = 0; acc = 0; errors = 0 }

-- between frames
abbrev pub Idle : Deframer → Type 0
Idle d = d.in_frame ≡ false

-- what a bit gives: the deframer after it, and its answer: "byte, waiting or bad stop"
pub record Deframed : Type 0 where
  pub state : Deframer
  pub heard : Heard

-- document 01's reading of each answer: a byte, or none. "bad stop and waiting both read as no byte"
abbrev pub bytes_of : Heard → List ℕ
bytes_of (Byte b) = b ∷ []
bytes_of Waiting = []
bytes_of BadStop = []

-- the bad stops in an answer: one, or none
abbrev pub bad_stops_of : Heard → ℕ
bad_stops_of (Byte b) = 0
bad_stops_of Waiting = 0
bad_stops_of BadStop = 1

-- what the code answers
abbrev pub deframed : Pushed → Deframed
deframed x = record { state = x.state; heard = x.heard }

-- this state, and nothing completed
abbrev pub waiting : Deframer → Deframed
waiting d = record { state = d; heard = Waiting }

-- a bit while idle: a space starts a frame, a mark changes nothing
unfoldable pub idle_bit : Deframer → Bool → Deframed
idle_bit d bit =
    if bit then waiting d
    else waiting (record { in_frame = true; bit_count = 0; acc = 0; errors = d.errors })

-- "eight data bits lowest first": data bit number k, where it is a mark, puts 2^k into the byte
abbrev pub with_bit : ℕ → ℕ → Bool → ℕ
with_bit acc k bit = if bit then bit_or acc (2 ^ k) else acc

-- a data bit: one more bit of the byte
unfoldable pub data_bit : Deframer → Bool → Deframed
data_bit d bit =
    waiting
    (record {
      in_frame = d.in_frame;
      bit_count = d.bit_count + 1;
      acc = with_bit d.acc d.bit_count bit;
      errors = d.errors;
    })

abbrev pub most_errors : ℕ
most_errors = 4294967295

-- "The error count holds at 4,294,967,295"
abbrev pub one_more : ℕ → ℕ
one_more errors = min (errors + 1) most_errors

-- back to idle, with so many errors
abbrev pub ended : Deframer → ℕ → Deframer
ended d e = record { in_frame = false; bit_count = d.bit_count; acc = d.acc; errors = e }

-- "A space in stop position adds one error, returns to idle and starts nothing"
unfoldable pub bad_stop : Deframer → Deframed
bad_stop d = record { state = ended d (one_more d.errors); heard = BadStop }

-- a bit in stop position: a mark gives the byte
unfoldable pub stop_bit : Deframer → Bool → Deframed
stop_bit d bit =
    if bit then record { state = ended d d.errors; heard = Byte d.acc }
    else bad_stop d

-- a bit in a frame: eight data bits, then the stop bit
abbrev pub frame_bit : Deframer → Bool → Deframed
frame_bit d bit = if ltb d.bit_count 8 then data_bit d bit else stop_bit d bit

-- one bit
unfoldable pub push_bit : Deframer → Bool → Deframed
push_bit d bit = if d.in_frame then frame_bit d bit else idle_bit d bit

-- the byte that a bit completes, one or none
abbrev pub yielded : Deframer → Bool → List ℕ
yielded d bit = bytes_of (push_bit d bit).heard

-- a bit taken: the state after it, its answer, and that answer as document 01 reads it
abbrev pub Pushes : Deframer → Bool → Deframer → Heard → Type 0
Pushes d bit state answer = (record { state = state; heard = answer } ≡ push_bit d bit) × (bytes_of answer ≡ yielded d bit)

-- ---- a list of bits
-- the bytes that these bits yield, in order
unfoldable pub heard : Deframer → List Bool → List ℕ
heard d [] = []
heard d (bit ∷ bits) = yielded d bit ++ heard (push_bit d bit).state bits

-- how many of them are answered as bad stops
unfoldable pub bad_stop_count : Deframer → List Bool → ℕ
bad_stop_count d [] = 0
bad_stop_count d (bit ∷ bits) = bad_stops_of (push_bit d bit).heard + bad_stop_count (push_bit d bit).state bits

-- the deframer after these bits
unfoldable pub after : Deframer → List Bool → Deframer
after d [] = d
after d (bit ∷ bits) = after (push_bit d bit).state bits
