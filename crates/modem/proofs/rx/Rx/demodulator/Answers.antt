-- `Rx::demodulator` meets its contract: it is the listener's. Assumes nothing.
use mathlib.Core.Path.{refl}
use Rattle.modem.specs.ListenerRep.{demod_of}
use Rattle.modem.specs.RxRep.{receiver_of}
use Rattle.modem.proofs.rx.Rx.demodulator.Goals as goal

pub returns : goal.returns
unfolding receiver_of demod_of
returns c = refl
