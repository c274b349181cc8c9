-- `counts::sum_of` meets its contract. The invariant: the sum so far and that of the rest are the whole. Assumes nothing.
use Rattle.hexadecimal.specs.Hex.{total}
use mathlib.Core.Path.{◌≡◌}
use Prim.Native.Nat.{◌+◌}
use lib.ListN.{drop}
use Rattle.board.proofs.counts.sum_of.Given as goal

abbrev pub invariant-loop-i : goal.invariant-loop-i
invariant-loop-i l = l.sum + total (drop l.i l.counts) ≡ total l.counts
