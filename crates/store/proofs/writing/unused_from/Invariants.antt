-- Behind the place looked at there is no 0A. Assumes nothing.
use Rattle.store.proofs.Placing.{Behind}
use Rattle.store.proofs.writing.unused_from.Given as goal

abbrev pub invariant-loop-at : goal.invariant-loop-at
invariant-loop-at l = Behind l.buffer l.at
