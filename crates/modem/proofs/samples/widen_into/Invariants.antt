-- The invariant: the first i samples stand at the front, the rest of which is as it was. Assumes nothing.
use mathlib.Core.Path.{◌≡◌}
use mathlib.Core.List.{◌++◌}
use lib.ListN.{length, take, drop}
use Rattle.modem.proofs.samples.widen_into.Given as goal

abbrev pub invariant-loop-i : goal.invariant-loop-i
invariant-loop-i l = (l.out ≡ take l.i l.samples ++ drop l.i l.initial.out) × (length l.out ≡ length l.initial.out)
