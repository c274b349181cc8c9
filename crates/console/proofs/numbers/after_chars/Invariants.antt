-- Before each character those in front of it did what the whole block does from the start on. Assumes nothing.
use mathlib.Core.Path.{◌≡◌}
use lib.ListN.{length}
use Rattle.console.proofs.Lines.{Going}
use Rattle.console.proofs.numbers.after_chars.Given as goal

abbrev pub invariant-loop-c : goal.invariant-loop-c
invariant-loop-c l = (length l.out ≡ length l.initial.out) × Going l.initial.r l.initial.out l.s l.c-index l.r l.out
