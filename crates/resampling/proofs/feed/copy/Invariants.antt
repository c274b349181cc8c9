-- `feed::copy` meets its contract. The invariant: the output before i is the input's, and behind it as it came. Assumes nothing.
use mathlib.Core.Path.{◌≡◌}
use mathlib.Core.List.{◌++◌}
use lib.ListN.{length, take, drop}
use Rattle.resampling.proofs.feed.copy.Given as goal

abbrev pub invariant-loop-i : goal.invariant-loop-i
invariant-loop-i l = (l.output ≡ take l.i l.input ++ drop l.i l.initial.output) × (length l.output ≡ length l.initial.output)
