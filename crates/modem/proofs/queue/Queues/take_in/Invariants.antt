-- From code i on the rest does what the whole does from the start on. Assumes nothing.
use lib.ListN.{take}
use Rattle.modem.proofs.Taking.{Going}
use Rattle.modem.proofs.queue.Queues.take_in.Given as goal

abbrev pub invariant-loop-code : goal.invariant-loop-code
invariant-loop-code l =
    Going l.codes (take l.initial.count l.initial.held) (take l.initial.events_count l.initial.logged) l.held l.count l.logged l.events_count l.code-index
