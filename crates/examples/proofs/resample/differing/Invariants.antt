-- The count is at most the index. Assumes nothing.
use Prim.Native.Nat.{◌≤◌}
use Rattle.examples.proofs.resample.differing.Given as goal

abbrev pub invariant-loop-i : goal.invariant-loop-i
invariant-loop-i l = l.n ≤ l.i
