-- The steps that are left make of the guesses so far what all five make of the first ones. Assumes nothing.
use Rattle.std.proofs.Common.{◌≡◌, ◌-◌}
use Rattle.numeric.specs.Root.{improved, guess}
use Rattle.numeric.proofs.root.roots.Given as goal

abbrev pub invariant-loop-i : goal.invariant-loop-i
invariant-loop-i l = (improved (5 - l.i) l.u l.g ≡ improved 5 l.u (guess l.u)) × (improved (5 - l.i) l.w l.h ≡ improved 5 l.w (guess l.w))
