-- The sender of a gauge that has no floats (document 02, K6): the bits that wait, keyed as places of a table of sines, at 8,000 Hz. All in whole
-- numbers; how the code holds it stands in specs/TableTxRep.antt. Assumes nothing.
use Rattle.std.specs.Prelude.{ℕ, zero, suc, ◌+◌, ◌*◌, ◌/◌, ◌%◌, ◌<◌, ◌≡◌, Bool, true, false, List, [], ◌∷◌, leb, length, get_or, ℤ}
use Rattle.std.specs.Prelude.{if◌then◌else◌}
use Rattle.refusal.specs.Refusals.{Reply, given, refused}
use Rattle.bell103.specs.declared.Role.{Role}
use Rattle.bell103.specs.declared.Role.TheVariants.{Originate, Answer}
use Rattle.framing.specs.Frame.{mark}
use Rattle.modulation.specs.Bits.{next_bit, rest_bits}
use Rattle.modulation.specs.Requests as requests
use Rattle.modulation.specs.Requests.{Request, Turn, reply_to, asked}
use Rattle.modulation.specs.Tx.{bits_wait, read_refused}
use Rattle.modulation.specs.Table.{places, entry_of}
use Rattle.modulation.specs.declared.table_tx.Hops.{Hops}

-- ---- one sample
-- "a fifth of the tone", in places a sample
unfoldable pub hops_of : Role → Hops
hops_of Originate = record { mark = 1270 / 5; space = 1070 / 5 }
hops_of Answer = record { mark = 2225 / 5; space = 2025 / 5 }

-- true is mark
abbrev pub hop_of : Hops → Bool → ℕ
hop_of h true = h.mark
hop_of h false = h.space

-- the place of the next sample, the bit in force, how many symbols began and how many samples were given, and the bits that wait, oldest first
pub record Phase : Type 0 where
  pub place : ℕ
  pub current : Bool
  pub symbols : ℕ
  pub samples : ℕ
  pub bits : List Bool

abbrev pub phase : ℕ → Bool → ℕ → ℕ → List Bool → Phase
phase p c m s b = record { place = p; current = c; symbols = m; samples = s; bits = b }

-- "A symbol begins at the first sample s with 3 × s ≥ 80 × (symbol number), both counted from 0"
abbrev pub begins : ℕ → ℕ → Bool
begins m s = leb (80 * m) (3 * s)

-- "A symbol takes the next waiting bit, or mark, as it begins"
unfoldable pub begun : Phase → Phase
begun k = if begins k.symbols k.samples then phase k.place (next_bit k.bits) (k.symbols + 1) k.samples (rest_bits k.bits) else k

-- "after each sample the place moves on by a fifth of the tone in force", "places taken modulo 1,600". "Phase is kept through a tone change"
unfoldable pub moved : Hops → Phase → Phase
moved h k = phase ((k.place + hop_of h k.current) % places) k.current k.symbols (k.samples + 1) k.bits

-- ---- samples one after the other
pub record Sent : Type 0 where
  pub samples : List ℤ
  pub after : Phase

abbrev pub sending : List ℤ → Phase → Sent
sending xs k = record { samples = xs; after = k }

-- "Its samples equal the table's"
unfoldable pub sent : ℕ → Hops → Phase → Sent
sent zero h k = sending [] k
sent (suc n) h k = sending (entry_of k.place ∷ (sent n h (moved h (begun k))).samples) (sent n h (moved h (begun k))).after

-- ---- the sender
pub record TableSender : Type 0 where
  pub hops : Hops
  pub phase : Phase

abbrev pub table_sender : Hops → Phase → TableSender
table_sender h k = record { hops = h; phase = k }

-- "Sample 0 shows place 0", and nothing waits
abbrev pub fresh_table : Role → TableSender
fresh_table role = table_sender (hops_of role) (phase 0 mark 0 0 [])

-- `write` and `write_idle_mark`: "The sender works on the same bit queue"
pub record TableQueueing : Type 0 where
  pub answer : Reply Unit
  pub state : TableSender

abbrev pub table_queueing : Reply Unit → TableSender → TableQueueing
table_queueing a s = record { answer = a; state = s }

abbrev pub phase_asked : Phase → Request → Phase
phase_asked k r = phase k.place k.current k.symbols k.samples (asked k.bits r)

unfoldable pub table_requested : TableSender → Request → TableQueueing
table_requested s r = table_queueing (reply_to s.phase.bits r) (table_sender s.hops (phase_asked s.phase r))

-- `pending`: whether bits wait
abbrev pub table_pending : TableSender → Bool
table_pending s = bits_wait s.phase.bits

-- `read`: "under 3, 31", "and fills the lent slice whole"; a refused one changes nothing
pub record TableReading : Type 0 where
  pub answer : Reply Unit
  pub state : TableSender
  pub out : List ℤ

abbrev pub table_reading : Reply Unit → TableSender → List ℤ → TableReading
table_reading a s o = record { answer = a; state = s; out = o }

abbrev pub unless_refused : ℕ → TableSender → List ℤ → TableReading → TableReading
unless_refused zero s out accepted = accepted
unless_refused (suc k) s out accepted = table_reading (refused (suc k)) s out

abbrev pub filled_for : TableSender → ℕ → TableReading
filled_for s n = table_reading (given tt) (table_sender s.hops (sent n s.hops s.phase).after) (sent n s.hops s.phase).samples

unfoldable pub table_read_of : TableSender → List ℤ → TableReading
table_read_of s out = unless_refused (read_refused s.phase.samples (length out)) s out (filled_for s (length out))

-- ---- the same by the sample's number and the bits sent
-- the sample with which symbol m begins: 80 × m / 3, rounded up
abbrev pub begins_at : ℕ → ℕ
begins_at m = (80 * m + 2) / 3

-- the symbol in force at sample s
abbrev pub symbol_at : ℕ → ℕ
symbol_at s = 3 * s / 80

-- how many places the phase has moved on before sample s, where these are the bits sent, one to a symbol
unfoldable pub travelled : Hops → List Bool → ℕ → ℕ
travelled h bits zero = 0
travelled h bits (suc s) = travelled h bits s + hop_of h (get_or bits (symbol_at s) mark)

-- sample s
abbrev pub sample_at : Hops → List Bool → ℕ → ℤ
sample_at h bits s = entry_of (travelled h bits s % places)

-- n samples from number s on
unfoldable pub samples_from : Hops → List Bool → ℕ → ℕ → List ℤ
samples_from h bits s zero = []
samples_from h bits s (suc n) = sample_at h bits s ∷ samples_from h bits (s + 1) n

-- ---- requests in any order, and samples read between them, from a fresh sender on
pub data Beat : Type 0 where
  ask : Request → Beat
  sample : Beat

-- the samples that are read
unfoldable pub samples_of : Hops → Phase → List Beat → List ℤ
samples_of h k [] = []
samples_of h k (ask r ∷ bs) = samples_of h (phase_asked k r) bs
samples_of h k (sample ∷ bs) = entry_of k.place ∷ samples_of h (moved h (begun k)) bs

-- how many these are
unfoldable pub count_of : List Beat → ℕ
count_of [] = 0
count_of (ask r ∷ bs) = count_of bs
count_of (sample ∷ bs) = suc (count_of bs)

-- the requests and the symbols that begin, where m symbols began and s samples were given
unfoldable pub turns_of : ℕ → ℕ → List Beat → List Turn
turns_of m s [] = []
turns_of m s (ask r ∷ bs) = requests.ask r ∷ turns_of m s bs
turns_of m s (sample ∷ bs) = if begins m s then requests.symbol ∷ turns_of (m + 1) (s + 1) bs else turns_of m (s + 1) bs

-- n samples read one after the other
unfoldable pub reads : ℕ → List Beat
reads zero = []
reads (suc n) = sample ∷ reads n

-- each of these is an entry of the table
unfoldable pub EachEntry : List ℤ → Type 0
EachEntry [] = Unit
EachEntry (x ∷ xs) = ((p : ℕ) × (p < places) × (x ≡ entry_of p)) × EachEntry xs

-- the bits sent, one to a symbol
abbrev pub bits_sent : List Beat → List Bool
bits_sent bs = requests.symbols [] (turns_of 0 0 bs)
