-- `table::table_sent_from_fresh` meets its contract. Assumes nothing.
use Rattle.calls.specs.Table.{table_run}
use Rattle.calls.proofs.table.table_sent_from_fresh.Goals as goal

pub returns : goal.returns
unfolding table_run
returns c = rw (← c.role_of.ensures, ← c.new.ensures) c.all_calls.ensures.answers_after
