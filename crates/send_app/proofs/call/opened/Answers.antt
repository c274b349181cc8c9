use Rattle.send_app.proofs.Asking.{opened-is}
use Rattle.send_app.proofs.call.opened.Goals as goal

pub returns : goal.returns
returns c =
    opened-is _ c.set_amplitude-a.ensures c.write_idle_mark-l.ensures.state_value c.write-t.ensures.state_value c.write_idle_mark-g.ensures.state_value c.write-e.ensures.state_value
