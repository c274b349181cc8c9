-- `numeric::sine::reduce` meets its contract. The loop's invariant: what is left to do gives what the whole gives. Assumes nothing.
use Rattle.std.proofs.Common.{◌≡◌, ◌-◌}
use Rattle.numeric.specs.Sine.{reduced}
use Rattle.numeric.proofs.sine.reduce.Given as goal

abbrev pub invariant-loop-i : goal.invariant-loop-i
invariant-loop-i l = reduced 64 l.x ≡ reduced (64 - l.i) l.y
