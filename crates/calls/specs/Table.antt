-- Whole lists of calls of the sender that has no floats, each list from a fresh state. Assumes nothing.
use Rattle.std.specs.Prelude.{ℕ, List, eqb, leb, ℤ, length}
use Rattle.std.specs.Prelude.{if◌then◌else◌}
use Rattle.modulation.specs.Requests.{write, idle_mark}
use Rattle.modulation.specs.TableTx.{TableSender, TableQueueing, table_requested, TableReading, table_read_of, table_pending, fresh_table}
use Rattle.calls.specs.Answers.{number_in}
use Rattle.calls.specs.Roles.{role_of}
use Rattle.calls.specs.Resample.{Run}
use Rattle.calls.specs.Script.{Outcome, outcome, unless_refused, Calls, calls_for, sent_from}
use Rattle.calls.specs.declared.table.TableKind.{TableKind}
use Rattle.calls.specs.declared.table.TableKind.TheVariants as kinds

-- ---- one call
-- `write` and `write_idle_mark`, and `read`, whose value is the number of places filled
abbrev pub of_table_queueing : TableQueueing → List ℤ → Outcome TableSender ℤ
of_table_queueing q part = outcome (number_in q.answer) 0 q.state part

abbrev pub of_table_reading : TableReading → ℕ → Outcome TableSender ℤ
of_table_reading r n = outcome (number_in r.answer) (unless_refused r.answer n) r.state r.out

-- the kind of a call that a number says
abbrev pub table_kind_of : ℕ → TableKind
table_kind_of n = if eqb n 0 then kinds.Write else if eqb n 1 then kinds.IdleMark else kinds.Read

-- the call of this kind with the number n, lent these bytes and these places
unfoldable pub table_called : ℕ → ℕ → TableSender → List ℕ → List ℤ → Outcome TableSender ℤ
table_called kind n s bytes part =
    if eqb kind 0 then of_table_queueing (table_requested s (write bytes)) part
    else if eqb kind 1 then of_table_queueing (table_requested s (idle_mark n)) part
    else of_table_reading (table_read_of s part) (length part)

-- the places that a call of this kind is lent, at most
abbrev pub table_places : ℕ → ℕ → ℕ
table_places kind n = if leb kind 1 then 0 else n

abbrev pub table_sends : Calls TableSender ℤ
table_sends = record { called = table_called; places = table_places; waits = table_pending }

-- ---- a script
unfoldable pub table_run : ℕ → List ℕ → List ℕ → List ℤ → List ℕ → Run ℤ
table_run role bytes script out ans = sent_from table_sends (calls_for script ans) (fresh_table (role_of role)) bytes script out ans
