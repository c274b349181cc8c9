-- Whole lists of calls of the sender, each list from a fresh state. Assumes nothing.
use Rattle.std.specs.Prelude.{ℕ, ◌%◌, ◌^◌, List, eqb, length, Float}
use Rattle.std.specs.Float.{binary32}
use Rattle.std.specs.Float.Ieee.{of_bits}
use Rattle.std.specs.Prelude.{if◌then◌else◌}
use Rattle.refusal.specs.Refusals.{Reply, given, refused, rate_refused, dsp_rate}
use Rattle.modulation.specs.Tx.{Sender, Reading, read_of, Adjusted, amplitude_of, pending_of, duration_of, fresh_sender}
use Rattle.modulation.specs.Queueing.{Queueing, write_of, idle_mark_of}
use Rattle.calls.specs.Answers.{number_in, count_in}
use Rattle.calls.specs.Roles.{role_of}
use Rattle.calls.specs.Resample.{Run, ran}
use Rattle.calls.specs.Script.{Outcome, outcome, unless_refused, Calls, calls_for, sent_from, sender_after}
use Rattle.calls.specs.declared.send.Kind.{Kind}
use Rattle.calls.specs.declared.send.Kind.TheVariants as kinds

-- ---- one call
-- `write` and `write_idle_mark`, `set_amplitude`, `read`, whose value is the number of places filled, and `samples_for_bits`
abbrev pub of_queueing : Queueing → List Float → Outcome Sender Float
of_queueing q part = outcome (number_in q.answer) 0 q.state part

abbrev pub of_adjusted : Adjusted → List Float → Outcome Sender Float
of_adjusted a part = outcome (number_in a.answer) 0 a.state part

abbrev pub of_reading : Reading → ℕ → Outcome Sender Float
of_reading r n = outcome (number_in r.answer) (unless_refused r.answer n) r.state r.out

abbrev pub of_duration : Reply ℕ → Sender → List Float → Outcome Sender Float
of_duration d s part = outcome (number_in d) (count_in d) s part

-- the kind of a call that a number says
abbrev pub kind_of : ℕ → Kind
kind_of n =
    if eqb n 0 then kinds.Write
    else if eqb n 1 then kinds.IdleMark
    else if eqb n 2 then kinds.Amplitude
    else if eqb n 3 then kinds.Read
    else kinds.SamplesForBits

-- the f32 whose bits are the lowest 32 of n
abbrev pub amplitude_in : ℕ → Float
amplitude_in n = of_bits binary32 (n % 2 ^ 32)

-- the call of this kind with the number n, lent these bytes and these places
unfoldable pub called : ℕ → ℕ → Sender → List ℕ → List Float → Outcome Sender Float
called kind n s bytes part =
    if eqb kind 0 then of_queueing (write_of s bytes) part
    else if eqb kind 1 then of_queueing (idle_mark_of s n) part
    else if eqb kind 2 then of_adjusted (amplitude_of s (amplitude_in n)) part
    else if eqb kind 3 then of_reading (read_of s part) (length part)
    else of_duration (duration_of s n) s part

-- the places that a call of this kind is lent, at most
abbrev pub places_for : ℕ → ℕ → ℕ
places_for kind n = if eqb kind 3 then n else 0

abbrev pub sends : Calls Sender Float
sends = record { called = called; places = places_for; waits = pending_of }

-- ---- a script
-- a rate that `new` refuses runs no call and writes nothing
unfoldable pub send_run : ℕ → ℕ → List ℕ → List ℕ → List Float → List ℕ → Run Float
send_run rate role bytes script out ans =
    if rate_refused rate then ran 0 out ans else sent_from sends (calls_for script ans) (fresh_sender rate (role_of role)) bytes script out ans

-- what a script leaves: the answer of `new`, the run, and the sender behind it
pub record Sent : Type 0 where
  pub answer : Reply Unit
  pub run : Run Float
  pub state : Sender

abbrev pub sent : Reply Unit → Run Float → Sender → Sent
sent a r s = record { answer = a; run = r; state = s }

unfoldable pub sender_run : ℕ → ℕ → List ℕ → List ℕ → List Float → List ℕ → Sent
sender_run rate role bytes script out ans =
    let k = calls_for script ans in
    let s = fresh_sender rate (role_of role) in
    if rate_refused rate then sent (refused 1) (ran 0 out ans) (fresh_sender dsp_rate (role_of role))
    else sent (given tt) (sent_from sends k s bytes script out ans) (sender_after sends k s bytes script out)
