-- The loop over codes that fills both queues, turn by turn. Assumes nothing.
use Prim.Native.Nat.{ℕ, ◌+◌, ◌<◌, ◌≤◌}
use mathlib.Core.Path.{◌≡◌, refl, sym, ap, ◌∙◌}
use mathlib.Core.Bool.{Bool}
use mathlib.Core.List.{List, ◌∷◌, ◌++◌, append-nil, append_assoc}
use native.Mathlib.Numerals.{add-one}
use native.Mathlib.Omega.{arith}
use lib.ListN.{length, get_or, take, drop, drop_of_length-le, length-append}
use lib.Seq.{drop-cons}
use Rattle.happenings.specs.Happening.{byte_of, change_of, bytes_in, changes_in, happening_of, happenings_of}
use Rattle.happenings.specs.declared.happening.Happening.{Happening}
use Rattle.modem.specs.Queue.{most_bytes, queued, Kept, most_events, logged, Logs, logging_all, Takable}
use Rattle.modem.proofs.QueueLaws.{logging-all-append}
use Rattle.modem.specs.declared.queue.Queues.{Queues}

-- from code i on, the rest does what the whole does from the start, where `waited` and `before` waited
pub record Going (codes waited : List ℕ) (before : List Bool) (held : List ℕ) (n : ℕ) (logs : List Bool) (m : ℕ) (i : ℕ) : Type 0 where
  pub bytes : take n held ++ bytes_in (happenings_of (drop i codes)) ≡ waited ++ bytes_in (happenings_of codes)
  pub counted : n + length (bytes_in (happenings_of (drop i codes))) ≤ most_bytes
  pub events : logging_all (take m logs) (changes_in (happenings_of (drop i codes))) ≡ logging_all before (changes_in (happenings_of codes))
  pub places : length held ≡ most_bytes
  pub log_places : length logs ≡ most_events
  pub log_room : m ≤ most_events

pub going_start : (codes : List ℕ) (q : Queues) → Takable q (happenings_of codes)
    → Going codes (queued q.bytes) (logged q.events) q.bytes.held q.bytes.count q.events.held q.events.count 0
going_start codes q p = record { bytes = refl; counted = p; events = refl; places = q.bytes.places; log_places = q.events.places; log_room = q.events.room }

module _ (codes waited : List ℕ) (before : List Bool) (held : List ℕ) (n : ℕ) (logs : List Bool) (m : ℕ) (i : ℕ) (g : Going codes waited before held n logs m i) where
  module _ (x : Happening) (h : i < length codes) (is : x ≡ happening_of (get_or codes i 0)) where
    turn : happenings_of (drop i codes) ≡ x ∷ happenings_of (drop (i + 1) codes)
    unfolding happenings_of
    turn = rw (is, add-one i, drop-cons codes i 0 h)

    bytes-turn : bytes_in (happenings_of (drop i codes)) ≡ byte_of x ++ bytes_in (happenings_of (drop (i + 1) codes))
    unfolding bytes_in
    bytes-turn = ap bytes_in turn

    changes-turn : changes_in (happenings_of (drop i codes)) ≡ change_of x ++ changes_in (happenings_of (drop (i + 1) codes))
    unfolding changes_in
    changes-turn = ap changes_in turn

    rest : length (bytes_in (happenings_of (drop i codes))) ≡ length (byte_of x) + length (bytes_in (happenings_of (drop (i + 1) codes)))
    rest = ap length bytes-turn ∙ length-append (byte_of x) _

    -- the byte has room
    pub room : n + length (byte_of x) ≤ most_bytes
    room = omega (arith, rest, g.counted)

    pub going_on : (held' : List ℕ) (n' : ℕ) (logs' : List Bool) (m' : ℕ) → Kept n held (byte_of x) n' held' → Logs (logging_all (take m logs) (change_of x)) m' logs'
        → Going codes waited before held' n' logs' m' (i + 1)
    going_on held' n' logs' m' k w =
        let r = bytes_in (happenings_of (drop (i + 1) codes)) in
        let c = changes_in (happenings_of (drop (i + 1) codes)) in
        record {
          bytes =
              ap (λ (l : List ℕ). l ++ r) k.waits ∙ append_assoc (take n held) (byte_of x) r
              ∙ ap (λ (l : List ℕ). take n held ++ l) (sym bytes-turn) ∙ g.bytes;
          counted = omega (arith, rest, g.counted, k.count);
          events = ap (λ l. logging_all l c) w.waits ∙ sym (logging-all-append (take m logs) (change_of x) c) ∙ ap (logging_all (take m logs)) (sym changes-turn) ∙ g.events;
          places = k.places;
          log_places = w.places;
          log_room = w.room;
        }

  module _ (l : length codes ≤ i) where
    pub bytes-end : take n held ≡ waited ++ bytes_in (happenings_of codes)
    unfolding happenings_of bytes_in
    bytes-end = sym (append-nil (take n held)) ∙ rw (drop_of_length-le codes l) at g.bytes

    pub events-end : take m logs ≡ logging_all before (changes_in (happenings_of codes))
    unfolding logging_all happenings_of changes_in
    events-end = rw (drop_of_length-le codes l) at g.events
