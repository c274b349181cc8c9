-- The rest of the word says what the whole says. Assumes nothing.
use Rattle.console.specs.Words.{decimal_from}
use lib.ListN.{drop}
use mathlib.Core.Path.{◌≡◌}
use Prim.Native.Nat.{◌≤◌}
use Rattle.console.proofs.words.decimal_up_to.Given as goal

abbrev pub invariant-loop-c : goal.invariant-loop-c
invariant-loop-c l = (l.value ≤ l.most) × (decimal_from l.most l.value (drop l.c-index l.word) ≡ decimal_from l.most 0 l.word)
