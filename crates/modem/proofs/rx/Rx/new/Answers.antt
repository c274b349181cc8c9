-- By the contracts of its parts. Assumes nothing.
use Rattle.modem.specs.Rx.{fresh_receiver}
use Rattle.modem.proofs.RxCalls.{new_is}
use Rattle.modem.specs.RxRep.{receiver_of}
use Rattle.modem.proofs.rx.Rx.new.Goals as goal

pub returns : goal.returns
unfolding receiver_of fresh_receiver
returns c =
    let o = c.new-o.ensures in
    let b = c.new.ensures in
    let e = c.new-2.ensures in
    rw (new_is c.args.rate c.args.role, o.answer, o.fresh.demod, o.fresh.accepted, b, e)
