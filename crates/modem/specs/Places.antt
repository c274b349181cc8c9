-- What the queues' parts do to the arrays that hold them: the first so many places wait. Assumes nothing.
use Rattle.std.specs.Prelude.{ℕ, ◌+◌, ◌≤◌, ◌≡◌, Bool, List, [], ◌∷◌, ◌++◌, ltb, length, take, drop}
use Rattle.std.specs.Prelude.{if◌then◌else◌, Option, Some}
use Rattle.numeric.specs.Fold.{fold}
use Rattle.demodulation.specs.declared.demod.Carrier.{Carrier}
use Rattle.demodulation.specs.declared.demod.Carrier.TheVariants.{Up, Down}

-- the m elements from place k on stand at the front, in as many places
pub record Moved {A : Type 0} (k m : ℕ) (before after : List A) : Type 0 where
  pub front : take m after ≡ take m (drop k before)
  pub places : length after ≡ length before

-- ---- received bytes
-- "more than 409 of 512 received bytes wait"
abbrev pub most_bytes : ℕ
most_bytes = 512

-- behind the first n of an array come these bytes; m is their number together
pub record Kept (n : ℕ) (before bytes : List ℕ) (m : ℕ) (after : List ℕ) : Type 0 where
  pub waits : take m after ≡ take n before ++ bytes
  pub count : m ≡ n + length bytes
  pub places : length after ≡ most_bytes

-- ---- carrier events: true is up
-- "The event queue holds 64"
abbrev pub most_events : ℕ
most_events = 64

-- "The event queue holds 64; one more drops the oldest"
unfoldable pub logging : List Bool → Bool → List Bool
logging events e = (if ltb (length events) most_events then events else drop 1 events) ++ (e ∷ [])

-- a list of events, one after the other
unfoldable pub logging_all : List Bool → List Bool → List Bool
logging_all events es = fold logging events es

-- these events are the first n of an array
pub record Logs (events : List Bool) (n : ℕ) (held : List Bool) : Type 0 where
  pub waits : take n held ≡ events
  pub places : length held ≡ most_events
  pub room : n ≤ most_events

-- a change of the carrier as an event
abbrev pub event_of : Bool → Option Carrier
event_of up = if up then Some Up else Some Down
