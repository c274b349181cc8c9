-- `Rx::carrier_detected` meets its contract: the report is the demodulator's. Assumes nothing.
use Rattle.modem.specs.ListenerRep.{demod_of}
use Rattle.modem.specs.RxRep.{receiver_of}
use Rattle.modem.proofs.rx.Rx.carrier_detected.Goals as goal

pub returns : goal.returns
unfolding receiver_of demod_of
returns c = c.carrier_detected.ensures
