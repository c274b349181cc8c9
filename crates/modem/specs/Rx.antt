-- The receiver (rx.rs): what hears; two queues; and the number of samples accepted. Assumes nothing.
use Rattle.std.specs.Prelude.{ℕ, zero, suc, ◌+◌, ◌<◌, ◌≡◌, Bool, List, [], ◌∷◌, ◌++◌, length, take, drop, Float}
use Rattle.std.specs.Prelude.{if◌then◌else◌}
use Rattle.refusal.specs.Refusals.{dsp_rate, Reply, given, refused, rate_refused}
use Rattle.framing.specs.Frame.{most_errors}
use Rattle.demodulation.specs.Demod.{reported}
use Rattle.modem.specs.Write.{refused_by}
use Rattle.modem.specs.Listener.{Demod, heard_by, fresh_demod, bad_stops_by}
use Rattle.happenings.specs.Happening.{bytes_in, changes_in}
use Rattle.modem.specs.Queue.{logging_all, read_count, read_into, read_rest}
use Rattle.bell103.specs.declared.Role.{Role}
use Rattle.demodulation.specs.declared.kind.Kind.TheVariants.{Bare}

-- ---- the bare receiver, which does as the Rust does: the bytes that wait and the events that wait are lists, oldest first
pub record Receiver : Type 0 where
  pub demod : Demod
  pub waiting : List ℕ
  pub logged : List Bool
  pub accepted : ℕ

abbrev pub receiver : Demod → List ℕ → List Bool → ℕ → Receiver
receiver d w e n = record { demod = d; waiting = w; logged = e; accepted = n }

unfoldable pub fresh_receiver : ℕ → Role → Receiver
fresh_receiver rate role = receiver (fresh_demod Bare rate role) [] [] 0

-- ---- `new`
pub record Made : Type 0 where
  pub answer : Reply Unit
  pub state : Receiver

abbrev pub made : Reply Unit → Receiver → Made
made a r = record { answer = a; state = r }

-- refused 1 it gives a state all the same, the fresh one at 8,000
unfoldable pub new_of : ℕ → Role → Made
new_of rate role = if rate_refused rate then made (refused 1) (fresh_receiver dsp_rate role) else made (given tt) (fresh_receiver rate role)

-- ---- `write`
abbrev pub refusal_of : Receiver → List Float → ℕ
refusal_of r xs = refused_by xs r.accepted (length r.waiting)

-- an accepted write's answer is "the number of bad stops" in it
pub record Written : Type 0 where
  pub answer : Reply ℕ
  pub state : Receiver

abbrev pub wrote : Reply ℕ → Receiver → Written
wrote a r = record { answer = a; state = r }

-- an accepted write: the bytes heard join those that wait, all of them; "The event queue holds 64; one more drops the oldest"
unfoldable pub accepted_by : Receiver → List Float → Receiver
accepted_by r xs =
    let h = heard_by r.demod xs in
    receiver h.after (r.waiting ++ bytes_in h.happenings) (logging_all r.logged (changes_in h.happenings)) (r.accepted + length xs)

-- its answer, of that write alone
unfoldable pub accepted_write : Receiver → List Float → Written
accepted_write r xs = wrote (given (bad_stops_by r.demod xs)) (accepted_by r xs)

-- "A refused call returns its number alone and leaves state and buffers untouched"
abbrev pub unless_refused : ℕ → Receiver → Written → Written
unless_refused zero r accepted = accepted
unless_refused (suc k) r accepted = wrote (refused (suc k)) r

unfoldable pub written : Receiver → List Float → Written
written r xs = unless_refused (refusal_of r xs) r (accepted_write r xs)

-- ---- `read`, `events`, `carrier_detected`, `framing_errors`
pub record ReadOut : Type 0 where
  pub count : ℕ
  pub state : Receiver
  pub buf : List ℕ

abbrev pub read_out : ℕ → Receiver → List ℕ → ReadOut
read_out n r b = record { count = n; state = r; buf = b }

-- as many as wait and as buf has room for, oldest first; the rest of buf is left alone
unfoldable pub read_of : Receiver → List ℕ → ReadOut
read_of r buf =
    read_out (read_count r.waiting buf) (receiver r.demod (read_rest r.waiting buf) r.logged r.accepted) (read_into r.waiting buf)

pub record Taken : Type 0 where
  pub event : List Bool
  pub state : Receiver

abbrev pub taken : List Bool → Receiver → Taken
taken e r = record { event = e; state = r }

-- the oldest event, if there is one; true is up
unfoldable pub event_of : Receiver → Taken
event_of r = taken (take 1 r.logged) (receiver r.demod r.waiting (drop 1 r.logged) r.accepted)

-- the latched report
abbrev pub carrier_of : Receiver → Bool
carrier_of r = reported r.demod.inner

abbrev pub errors_of : Receiver → ℕ
errors_of r = r.demod.inner.deframer.errors

-- ---- a list of calls, each on the receiver that the one before it left
pub data Call : Type 0 where
  write : List Float → Call
  read : List ℕ → Call
  events : Call

abbrev pub after_call : Receiver → Call → Receiver
after_call r (write xs) = (written r xs).state
after_call r (read buf) = (read_of r buf).state
after_call r events = (event_of r).state

unfoldable pub after_calls : Receiver → List Call → Receiver
after_calls r [] = r
after_calls r (c ∷ cs) = after_calls (after_call r c) cs

-- the samples of a write, unless it is refused
abbrev pub taken_unless : ℕ → List Float → List (List Float)
taken_unless zero xs = xs ∷ []
taken_unless (suc k) xs = []

abbrev pub taken_at : Receiver → Call → List (List Float)
taken_at r (write xs) = taken_unless (refusal_of r xs) xs
taken_at r (read buf) = []
taken_at r events = []

-- the writes among these calls that are accepted, in order
unfoldable pub taken_in : Receiver → List Call → List (List Float)
taken_in r [] = []
taken_in r (c ∷ cs) = taken_at r c ++ taken_in (after_call r c) cs

-- "The error count holds at 4,294,967,295, which no receiver reaches": so it is the number of bad stops
pub record CountsAll (bad errors : ℕ) : Type 0 where
  pub all : errors ≡ bad
  pub below : errors < most_errors
