-- The steps that are left make of the guess so far what all five make of the first. Assumes nothing.
use Rattle.std.proofs.Common.{◌≡◌, ◌-◌}
use Rattle.numeric.specs.Root.{improved, guess}
use Rattle.numeric.proofs.root.root.Given as goal

abbrev pub invariant-loop-i : goal.invariant-loop-i
invariant-loop-i l = improved (5 - l.i) l.v l.g ≡ improved 5 l.v (guess l.v)
