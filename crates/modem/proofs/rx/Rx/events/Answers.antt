-- The queue's is the receiver's. Assumes nothing.
use Rattle.modem.specs.Rx.{event_of}
use Rattle.modem.specs.RxRep.{receiver_of}
use Rattle.modem.proofs.rx.Rx.events.Goals as goal

pub returns : goal.returns
unfolding receiver_of event_of
returns c =
    let n = c.next-next.ensures in
    rw (n.oldest, n.rest)
