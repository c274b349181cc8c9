-- `TableTx::write_idle_mark` meets its contract: the queue is as `ask_marks` leaves it. Assumes nothing.
use Rattle.modulation.specs.Requests.{idle_mark}
use Rattle.modulation.proofs.QueueingLaws.{queued-table}
use Rattle.modulation.proofs.table_tx.TableTx.write_idle_mark.Goals as goal

pub returns : goal.returns
returns c = record { state_value = queued-table _ _ (idle_mark c.args.n) _ _ c.ask_marks-asked.ensures c.with_bits-state.ensures }
