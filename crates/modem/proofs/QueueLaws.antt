-- How many wait in a queue; and the event queue holds the newest 64 of all the events that were logged. Assumes nothing.
use Prim.Native.Nat.{ℕ, ◌+◌, ◌-◌, ◌<◌, ◌≤◌}
use mathlib.Core.Path.{◌≡◌, refl, sym, ◌∙◌}
use mathlib.Core.Bool.{Bool, true, false}
use mathlib.Core.List.{List, [], ◌∷◌, ◌++◌, append-nil, append_assoc}
use native.Mathlib.Omega.{arith}
use lib.Dec.{ltb}
use lib.ListN.{length, drop, length-append, length-drop}
use lib.Seq.{drop-append-le, drop-drop, length-take-le}
use borrow.Author.Tests.{ltb-true, ltb-false, lt-ltb, le-ltb}
use Rattle.modem.specs.Queue.{queued, BytesSound, most_events, logged, EventsSound, logging, logging_all}
use Rattle.modem.specs.declared.queue.Bytes.{Bytes}
use Rattle.modem.specs.declared.queue.Events.{Events}
use Rattle.modem.specs.Queue.{newest}

-- `count` is the number of those that wait
pub queued_length : (q : Bytes) → length (queued q) ≡ q.count
queued_length q = length-take-le q.count q.held (omega (arith, q.places, q.room))

pub logged-length : (q : Events) → length (logged q) ≡ q.count
logged-length q = length-take-le q.count q.held (omega (arith, q.places, q.room))

-- a queue of the code's is sound
pub bytes-sound-of : (q : Bytes) → BytesSound q
bytes-sound-of q = record { places = q.places; room = q.room }

pub events-sound-of : (q : Events) → EventsSound q
events-sound-of q = record { places = q.places; room = q.room }

-- what was dropped before does not count
newest-newest : (n : ℕ) (a b : List Bool) → newest n (newest n a ++ b) ≡ newest n (a ++ b)
newest-newest n a b =
    let k : ℕ = length a - n in
    let within : k ≤ length a = omega arith in
    let joined : drop k a ++ b ≡ drop k (a ++ b) = sym (drop-append-le k a b within) in
    let left : length (drop k (a ++ b)) ≡ length a + length b - k = simp (length-drop, length-append) in
    let place : k + (length a + length b - k - n) ≡ length (a ++ b) - n = simp length-append (omega arith) in
    rw (joined, left, drop-drop (length a + length b - k - n) k (a ++ b), place)

-- with room
pub logging-room : (l : List Bool) (e : Bool) → length l < most_events → logging l e ≡ l ++ (e ∷ [])
unfolding logging
logging-room l e h = rw (lt-ltb (length l) most_events h)

-- with none
pub logging-full : (l : List Bool) (e : Bool) → most_events ≤ length l → logging l e ≡ drop 1 l ++ (e ∷ [])
unfolding logging
logging-full l e h = rw (le-ltb (length l) most_events h)

newest-by : (t : Bool) (l : List Bool) (e : Bool) → ltb (length l) most_events ≡ t → length l ≤ most_events → logging l e ≡ newest most_events (l ++ (e ∷ []))
newest-by true l e p h =
    let room : length l < most_events = ltb-true (length l) most_events p in
    let none : length (l ++ (e ∷ [])) - most_events ≡ 0 = simp length-append (omega arith) in
    logging-room l e room ∙ rw none
newest-by false l e p h =
    let full : most_events ≤ length l = ltb-false (length l) most_events p in
    let one : length (l ++ (e ∷ [])) - most_events ≡ 1 = simp length-append (omega arith) in
    logging-full l e full ∙ rw (one, drop-append-le 1 l (e ∷ []) (omega arith))

-- one more event
pub logging-last : (l : List Bool) (e : Bool) → length l ≤ most_events → logging l e ≡ newest most_events (l ++ (e ∷ []))
logging-last l e h = newest-by (ltb (length l) most_events) l e refl h

pub length-logging : (l : List Bool) (e : Bool) → length l ≤ most_events → length (logging l e) ≤ most_events
length-logging l e h = rw (logging-last l e h, length-drop) (omega arith)

-- the queue is the newest 64 of all
pub logging-all-last : (l es : List Bool) → length l ≤ most_events → logging_all l es ≡ newest most_events (l ++ es)
unfolding logging_all
logging-all-last l [] h =
    let none : length l - most_events ≡ 0 = omega arith in
    rw (append-nil, none)
logging-all-last l (e ∷ es) h =
    logging-all-last (logging l e) es (length-logging l e h)
    ∙ rw (logging-last l e h, newest-newest most_events (l ++ (e ∷ [])) es, append_assoc)

-- events logged in two parts
pub logging-all-append : (l es fs : List Bool) → logging_all l (es ++ fs) ≡ logging_all (logging_all l es) fs
unfolding logging_all
logging-all-append l [] fs = refl
logging-all-append l (e ∷ es) fs = logging-all-append (logging l e) es fs
