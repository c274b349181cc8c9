-- The invariant: the first i of them stand at the front, and from place i on nothing has moved. Assumes nothing.
use Rattle.modem.proofs.Moves.{Moving}
use Rattle.modem.proofs.queue.to_front.Given as goal

abbrev pub invariant-loop-i : goal.invariant-loop-i
invariant-loop-i g l = Moving l.k l.i l.initial.held l.held
