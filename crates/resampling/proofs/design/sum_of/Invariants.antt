-- `design::sum_of` meets its contract. The invariant: the rest of the sum, from where the loop stands, is the whole sum. Assumes nothing.
use Rattle.numeric.specs.F64.{◌⊕◌}
use mathlib.Core.Path.{◌≡◌}
use lib.ListN.{take, drop}
use Rattle.numeric.specs.Fold.{fold}
use Rattle.resampling.specs.Design.{total}
use Rattle.resampling.proofs.design.sum_of.Given as goal

abbrev pub invariant-loop-i : goal.invariant-loop-i
invariant-loop-i l = fold ◌⊕◌ l.sum (drop l.i (take l.n l.taps)) ≡ total (take l.n l.taps)
