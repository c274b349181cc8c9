use Rattle.send_app.proofs.AskingTable.{table-block-is}
use Rattle.send_app.proofs.gauge.table_part.Goals as goal

pub returns-clause-part_after : goal.returns-clause-part_after
returns-clause-part_after c = table-block-is _ _ _ _ c.queue_table-q.ensures.at_value c.read-r.ensures.out_after
