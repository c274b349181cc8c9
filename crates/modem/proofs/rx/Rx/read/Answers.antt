-- The queue's is the receiver's. Assumes nothing.
use Rattle.modem.specs.Rx.{read_of}
use Rattle.modem.specs.RxRep.{receiver_of}
use Rattle.modem.proofs.rx.Rx.read.Goals as goal

pub returns : goal.returns
unfolding receiver_of read_of
returns c =
    let d = c.drain-d.ensures in
    rw (d.count, d.buffer, d.rest)
