use Rattle.send_app.proofs.AskingTable.{opened-table-is}
use Rattle.send_app.proofs.gauge.opened_table.Goals as goal

pub returns : goal.returns
returns c =
    opened-table-is _ c.write_idle_mark-l.ensures.state_value c.write-t.ensures.state_value c.write_idle_mark-g.ensures.state_value c.write-e.ensures.state_value
