-- The call that `send` makes of a text, and how the sender is asked for it, block by block. Assumes nothing.
use Rattle.std.specs.Prelude.{ℕ, ◌+◌, List, [], ◌∷◌, ◌++◌, length, take, drop, from_bits, Float}
use Rattle.std.specs.Float.{binary32}
use Rattle.refusal.specs.Refusals.{Reply, given, refused}
use Rattle.modulation.specs.Requests.{Request, write, idle_mark, new_bits}
use Rattle.modulation.specs.Tx.{Sender, amplitude_of, read_of}
use Rattle.modulation.specs.Queueing.{requested, write_of}

-- what comes before the text: "idle mark, training character, idle mark, a bare 0A". 55 hexadecimal has alternating bits
abbrev pub opening : List Request
opening = idle_mark 300 ∷ write (0x55 ∷ []) ∷ idle_mark 60 ∷ write (0x0A ∷ []) ∷ []

-- "idle mark, training character, idle mark, a bare 0A, the lines, idle mark"
unfoldable pub call_of : List ℕ → List Request
call_of text = opening ++ (write text ∷ idle_mark 60 ∷ [])

-- bit periods of requests together
unfoldable pub bit_periods : List Request → ℕ
bit_periods [] = 0
bit_periods (r ∷ rs) = new_bits r + bit_periods rs

-- requests in order, each queued whole or refused
abbrev pub asked_for : Sender → List Request → Sender
asked_for s [] = s
asked_for s (r ∷ rs) = asked_for (requested s r).state rs

-- "at an amplitude that stays within ±1": 0.5
abbrev pub half : Float
half = from_bits binary32 0x3F00_0000

-- the sender before the first sample
unfoldable pub opened_of : Sender → Sender
opened_of s = asked_for (amplitude_of s half).state opening

-- the sender, how much of the text is queued, and the samples of a block
pub record Sent : Type 0 where
  pub sender : Sender
  pub queued : ℕ
  pub samples : List Float

abbrev pub sent : Sender → ℕ → List Float → Sent
sent s n xs = record { sender = s; queued = n; samples = xs }

-- the next 64 bytes of the text at the most
abbrev pub next_part : List ℕ → ℕ → List ℕ
next_part text at = take 64 (drop at text)

-- so many bytes more are queued, unless there was no room for them: then they are asked for again
abbrev pub queued_to : Reply Unit → ℕ → ℕ → ℕ
queued_to (given a) at n = at + n
queued_to (refused k) at n = at

unfoldable pub queued_more : Sender → List ℕ → ℕ → Sent
queued_more s text at =
    let q = write_of s (next_part text at) in
    sent q.state (queued_to q.answer at (length (next_part text at))) []

-- a block: more of the text is queued, then the sender is read into these places
unfoldable pub block_of : Sender → List ℕ → ℕ → List Float → Sent
block_of s text at places =
    let q = queued_more s text at in
    let r = read_of q.sender places in
    sent r.state q.queued r.out
