-- `Rx::waiting` meets its contract: the count is the number of those that wait. Assumes nothing.
use mathlib.Core.Path.{sym}
use Rattle.modem.proofs.QueueLaws.{queued_length}
use Rattle.modem.specs.RxRep.{receiver_of}
use Rattle.modem.proofs.rx.Rx.waiting.Goals as goal

pub returns : goal.returns
unfolding receiver_of
returns c = (sym (queued_length c.args.self.out), c.args.self.out.room)
