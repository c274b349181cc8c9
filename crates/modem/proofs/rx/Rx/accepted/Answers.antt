-- `Rx::accepted` meets its contract: it counts no more. Assumes nothing.
use mathlib.Core.Path.{refl}
use Rattle.modem.specs.RxRep.{receiver_of}
use Rattle.modem.proofs.rx.Rx.accepted.Goals as goal

pub returns : goal.returns
unfolding receiver_of
returns c = (refl, c.args.self.listener.most)
