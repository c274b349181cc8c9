-- The sender's call of each kind is the definition's. Assumes nothing.
use mathlib.Core.Path.{ap, ◌∙◌}
use Rattle.std.specs.Prelude.{length}
use Rattle.modulation.specs.TableTx.{TableQueueing, TableReading}
use Rattle.modulation.specs.TableTxRep.{table_of}
use Rattle.calls.specs.Table.{of_table_queueing, of_table_reading}
use Rattle.calls.proofs.TableKind.{table-called-is}
use Rattle.calls.proofs.table.TableTxScripted.make_call.Goals as goal

pub returns-in-Write : goal.returns-in-Write
returns-in-Write c =
    let a = c.args in
    record {
      part_after = rw c.number_in.ensures (ap (λ (q : TableQueueing). of_table_queueing q a.part.now) c.write-q.ensures.state_value)
          ∙ table-called-is a.n (table_of a.self.now) a.bytes.now a.part.now a.kind _ (rw c.in-Write.is at c.from.ensures);
    }

pub returns-in-IdleMark : goal.returns-in-IdleMark
returns-in-IdleMark c =
    let a = c.args in
    record {
      part_after = rw c.number_in-in-IdleMark.ensures (ap (λ (q : TableQueueing). of_table_queueing q a.part.now) c.write_idle_mark-q.ensures.state_value)
          ∙ table-called-is a.n (table_of a.self.now) a.bytes.now a.part.now a.kind _ (rw c.in-IdleMark.is at c.from.ensures);
    }

pub returns-in-Read : goal.returns-in-Read
returns-in-Read c =
    let a = c.args in
    record {
      part_after = rw (c.number_in-in-Read.ensures, c.unless_refused.ensures) (ap (λ (r : TableReading). of_table_reading r (length a.part.now)) c.read-g.ensures.out_after)
          ∙ table-called-is a.n (table_of a.self.now) a.bytes.now a.part.now a.kind _ (rw c.in-Read.is at c.from.ensures);
    }
