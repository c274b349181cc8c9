-- The invariant: the samples from place i on are in range exactly where all are. Assumes nothing.
use mathlib.Core.Path.{◌≡◌}
use lib.ListN.{drop}
use Rattle.numeric.specs.Convert.{all_in_range}
use Rattle.resampling.proofs.range.all_in_range.Given as goal

abbrev pub invariant-loop-x : goal.invariant-loop-x
invariant-loop-x l = all_in_range (drop l.x-index l.samples) ≡ all_in_range l.samples
