-- What each turn reads stands behind what was read before. Assumes nothing.
use Rattle.console.specs.Numbers.{StepsSome}
use Rattle.console.proofs.numbers.read_to_end.Given as goal

abbrev pub invariant-loop : goal.invariant-loop
invariant-loop g l = StepsSome l.initial.r l.initial.out l.r l.out
