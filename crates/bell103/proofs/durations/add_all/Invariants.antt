-- From place i on the lengths make of the sum what the whole list makes of nothing; and the sum has room. Assumes nothing.
use Prim.Native.Nat.{◌*◌, ◌<◌, ◌≤◌}
use mathlib.Core.Path.{◌≡◌}
use lib.ListN.{drop}
use Rattle.numeric.specs.Fold.{fold}
use Rattle.bell103.specs.Durations.{with_bits, carried}
use Rattle.bell103.proofs.durations.add_all.Given as goal

abbrev pub invariant-loop-n : goal.invariant-loop-n
invariant-loop-n l = (l.sum.quotient ≤ l.n-index * 335544321) × (l.sum.remainder < 300) × (fold (with_bits l.rate) l.sum (drop l.n-index l.lengths) ≡ carried l.rate l.lengths)
