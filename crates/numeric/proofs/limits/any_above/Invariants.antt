-- The numbers from a place on have one above the limit just where the whole list has. Assumes nothing.
use Rattle.std.proofs.Common.{◌≡◌, drop}
use Rattle.numeric.specs.Limits.{any_above}
use Rattle.numeric.proofs.limits.any_above.Given as goal

abbrev pub invariant-loop-x : goal.invariant-loop-x
invariant-loop-x l = any_above l.limit (drop l.x-index l.xs) ≡ any_above l.limit l.xs
