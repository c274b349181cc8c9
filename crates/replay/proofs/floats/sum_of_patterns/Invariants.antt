-- The sum stays below its modulus. Assumes nothing.
use Rattle.std.proofs.Common.{◌<◌}
use Rattle.replay.proofs.floats.sum_of_patterns.Given as goal

abbrev pub invariant-loop-x : goal.invariant-loop-x
invariant-loop-x l = l.sum < 4294967296
