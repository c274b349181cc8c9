-- The receiver's two queues, read as lists, oldest first: what stands in unused places is no part of any promise. Assumes nothing.
use Rattle.std.specs.Prelude.{ℕ, ◌+◌, ◌≤◌, min, ◌-◌, ◌≡◌, Bool, List, ◌++◌, length, take, drop}
pub use Rattle.modem.specs.Places.{Moved, most_bytes, Kept, most_events, Logs, event_of}
unfoldable pub use Rattle.modem.specs.Places.{logging, logging_all}
use Rattle.modem.specs.declared.queue.Bytes.{Bytes}
use Rattle.refusal.specs.declared.Counting.{Counting}
use Rattle.modem.specs.declared.queue.Events.{Events}
use Rattle.demodulation.specs.Demod.{events_of}
use Rattle.modem.specs.declared.queue.NextEvent.{NextEvent}
use Rattle.modem.specs.declared.queue.Queues.{Queues}
use Rattle.happenings.specs.Happening.{bytes_in, changes_in}
use Rattle.happenings.specs.declared.happening.Happening.{Happening}

-- ---- received bytes
-- the bytes that wait: the first `count`
abbrev pub queued : Bytes → List ℕ
queued q = take q.count q.held

-- what each value of the type keeps, 512 places, and no more wait than have one (proofs/QueueLaws.antt, bytes-sound-of)
pub record BytesSound (q : Bytes) : Type 0 where
  pub places : length q.held ≡ most_bytes
  pub room : q.count ≤ most_bytes

-- a queue in which these bytes wait
abbrev pub BytesWait : Bytes → List ℕ → Type 0
BytesWait q bytes = queued q ≡ bytes

-- Rx::read: as many as wait and as buf has room for
abbrev pub read_count : List ℕ → List ℕ → ℕ
read_count waiting buf = min (length waiting) (length buf)

-- buf after it: the oldest bytes in front, the rest as it was
abbrev pub read_into : List ℕ → List ℕ → List ℕ
read_into waiting buf = take (read_count waiting buf) waiting ++ drop (read_count waiting buf) buf

-- the bytes that still wait
abbrev pub read_rest : List ℕ → List ℕ → List ℕ
read_rest waiting buf = drop (read_count waiting buf) waiting

-- a queue read into a buffer: how many bytes, the buffer, and the queue afterwards
pub record Drains (q : Bytes) (before : List ℕ) (r : Counting Bytes) (after : List ℕ) : Type 0 where
  pub count : r.count ≡ read_count (queued q) before
  pub buffer : after ≡ read_into (queued q) before
  pub rest : BytesWait r.state (read_rest (queued q) before)

-- ---- carrier events: true is up
-- the events that wait: the first `count`
abbrev pub logged : Events → List Bool
logged q = take q.count q.held

-- what each value of the type keeps, 64 places, and no more wait than have one (proofs/QueueLaws.antt, events-sound-of)
pub record EventsSound (q : Events) : Type 0 where
  pub places : length q.held ≡ most_events
  pub room : q.count ≤ most_events

-- a queue in which these events wait
abbrev pub EventsWait : Events → List Bool → Type 0
EventsWait q events = logged q ≡ events

-- Rx::events takes off the oldest event, if there is one
pub record Pops (q : Events) (r : NextEvent) : Type 0 where
  pub oldest : events_of r.event ≡ take 1 (logged q)
  pub rest : EventsWait r.state (drop 1 (logged q))

-- the last n of a list, or all of a shorter one
abbrev pub newest : ℕ → List Bool → List Bool
newest n l = drop (length l - n) l

-- ---- what was heard, into both
-- the bytes have room
abbrev pub Takable : Queues → List Happening → Type 0
Takable q hs = q.bytes.count + length (bytes_in hs) ≤ most_bytes

-- the bytes heard wait behind those that waited, all of them; the changes of the report are logged
pub record TakesIn (q : Queues) (hs : List Happening) (r : Queues) : Type 0 where
  pub bytes : BytesWait r.bytes (queued q.bytes ++ bytes_in hs)
  pub events : EventsWait r.events (logging_all (logged q.events) (changes_in hs))
