-- What each turn reads stands behind what was read before. Assumes nothing.
use Rattle.console.specs.Text.{ReadSome}
use Rattle.console.proofs.text.read_all.Given as goal

abbrev pub invariant-loop : goal.invariant-loop
invariant-loop g l = ReadSome l.initial.r l.r
