-- `design::normalise` meets its contract. The invariant: the taps before i are divided, and those behind are as they came. Assumes nothing.
use Rattle.resampling.specs.Design.{most_taps}
use mathlib.Core.Path.{◌≡◌}
use lib.ListN.{length, take, drop}
use Rattle.numeric.specs.F64.{◌⊘◌}
use mathlib.Core.List.{map}
use Rattle.resampling.proofs.design.normalise.Given as goal

abbrev pub invariant-loop-i : goal.invariant-loop-i
invariant-loop-i l = (length l.taps ≡ most_taps) × (take l.i l.taps ≡ map (λ x. x ⊘ l.sum) (take l.i l.initial.taps)) × (drop l.i l.taps ≡ drop l.i l.initial.taps)
