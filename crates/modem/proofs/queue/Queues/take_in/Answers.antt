-- From code i on the rest does what the whole does from the start on. Assumes nothing.
use Rattle.modem.proofs.Taking.{going_start, room, going_on, bytes-end, events-end}
use Rattle.modem.proofs.queue.Queues.take_in.Goals as goal

pub loop-code-init : goal.loop-code-init
loop-code-init c = going_start _ c.args.self c.requires

pub keep_heard-count-requires : goal.keep_heard-count-requires
keep_heard-count-requires c =
    let g = c.loop-code.invariant in
    (room _ _ _ _ _ _ _ _ g _ c.loop-code-test.true c.happening_of-h.ensures, g.places)

pub log_into-events_count-requires : goal.log_into-events_count-requires
log_into-events_count-requires c = (c.loop-code.invariant.log_room, c.loop-code.invariant.log_places)

pub loop-code-preserved : goal.loop-code-preserved
loop-code-preserved c =
    going_on _ _ _ _ _ _ _ _ c.loop-code.invariant _ c.loop-code-test.true c.happening_of-h.ensures _ _ _ _ c.keep_heard-count.ensures c.log_into-events_count.ensures

pub returns : goal.returns
returns c =
    record {
      bytes = bytes-end _ _ _ _ _ _ _ _ c.loop-code.invariant c.loop-code-test.false;
      events = events-end _ _ _ _ _ _ _ _ c.loop-code.invariant c.loop-code-test.false;
    }
