-- Both ends' framing: what the sender is asked to queue is what the deframer of the other end hears. Assumes nothing.
use Rattle.std.specs.Prelude.{ℕ, ◌*◌, Bool, List, [], ◌∷◌, ◌++◌, length}
use Rattle.std.specs.Prelude.{if◌then◌else◌}
use Rattle.refusal.specs.Refusals.{Reply, given, refused}
use Rattle.framing.specs.Framing.{marks, frames_of, AreBytes}
use Rattle.modulation.specs.Bits.{bits_refused, next_bit, rest_bits}

-- what a caller asks: `write` of some bytes, or `write_idle_mark` of n bit periods
pub data Request : Type 0 where
  write : List ℕ → Request
  idle_mark : ℕ → Request

-- the bits that it queues
abbrev pub bits_of : Request → List Bool
bits_of (write bytes) = frames_of bytes
bits_of (idle_mark n) = marks n

-- how many these are: ten a byte
abbrev pub new_bits : Request → ℕ
new_bits (write bytes) = 10 * length bytes
new_bits (idle_mark n) = n

-- the bytes that it sends
abbrev pub bytes_in : Request → List ℕ
bytes_in (write bytes) = bytes
bytes_in (idle_mark n) = []

-- "33 waiting + new bits exceed 4,096", for a queue of these bits
abbrev pub is_refused : List Bool → Request → Bool
is_refused q r = bits_refused (length q) (new_bits r)

-- what it answers
abbrev pub reply_to : List Bool → Request → Reply Unit
reply_to q r = if is_refused q r then refused 33 else given tt

-- the queue afterwards: a refused request changes nothing
abbrev pub asked : List Bool → Request → List Bool
asked q r = if is_refused q r then q else q ++ bits_of r

abbrev pub sent_by : List Bool → Request → List ℕ
sent_by q r = if is_refused q r then [] else bytes_in r

-- ---- requests in any order, and symbols sent between them
pub data Turn : Type 0 where
  ask : Request → Turn
  symbol : Turn

-- the symbols sent: the oldest bit each, or mark where none waits
unfoldable pub symbols : List Bool → List Turn → List Bool
symbols q [] = []
symbols q (ask r ∷ ts) = symbols (asked q r) ts
symbols q (symbol ∷ ts) = next_bit q ∷ symbols (rest_bits q) ts

-- the bits that still wait
unfoldable pub queue_after : List Bool → List Turn → List Bool
queue_after q [] = q
queue_after q (ask r ∷ ts) = queue_after (asked q r) ts
queue_after q (symbol ∷ ts) = queue_after (rest_bits q) ts

-- the bytes of the accepted writes, in order
unfoldable pub bytes_asked : List Bool → List Turn → List ℕ
bytes_asked q [] = []
bytes_asked q (ask r ∷ ts) = sent_by q r ++ bytes_asked (asked q r) ts
bytes_asked q (symbol ∷ ts) = bytes_asked (rest_bits q) ts

-- each byte is below 256
abbrev pub OfBytes : List Turn → Type 0
OfBytes [] = Unit
OfBytes (ask r ∷ ts) = AreBytes (bytes_in r) × OfBytes ts
OfBytes (symbol ∷ ts) = OfBytes ts
