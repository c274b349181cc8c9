-- `Rx::events_waiting` meets its contract: the count is the number of those that wait. Assumes nothing.
use mathlib.Core.Path.{sym}
use Rattle.modem.proofs.QueueLaws.{logged-length}
use Rattle.modem.specs.RxRep.{receiver_of}
use Rattle.modem.proofs.rx.Rx.events_waiting.Goals as goal

pub returns : goal.returns
unfolding receiver_of
returns c = (sym (logged-length c.args.self.events), c.args.self.events.room)
