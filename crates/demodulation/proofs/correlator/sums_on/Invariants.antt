-- The invariant: the first k places are summed up. Assumes nothing.
use Prim.Native.Nat.{◌≤◌}
use Rattle.demodulation.specs.Summing.{Summed}
use Rattle.demodulation.proofs.correlator.sums_on.Given as goal

abbrev pub invariant-loop-k : goal.invariant-loop-k
invariant-loop-k l = (l.from ≤ l.k) × (l.to ≤ 27) × Summed l.k l.rings l.p
