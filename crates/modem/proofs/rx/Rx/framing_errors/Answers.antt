-- `Rx::framing_errors` meets its contract: the count is the deframer's. Assumes nothing.
use Rattle.modem.specs.ListenerRep.{demod_of}
use Rattle.modem.specs.RxRep.{receiver_of}
use Rattle.modem.proofs.rx.Rx.framing_errors.Goals as goal

pub returns : goal.returns
unfolding receiver_of demod_of
returns c = rw (← c.deframer.ensures) c.framing_errors.ensures
