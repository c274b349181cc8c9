use Rattle.send_app.proofs.Asking.{block-is}
use Rattle.send_app.proofs.call.read_part.Goals as goal

pub returns-clause-part_after : goal.returns-clause-part_after
returns-clause-part_after c = block-is _ _ _ _ c.queue_more-q.ensures.at_value c.read-r.ensures.0
