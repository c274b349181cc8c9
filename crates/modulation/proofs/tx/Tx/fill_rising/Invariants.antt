-- `tx::fill_rising` meets its contract: between passes what is written and what is left are together the whole. Assumes nothing.
use Rattle.modulation.proofs.Filling.{Going}
use lib.ListN.{length}
use Prim.Native.Nat.{◌+◌, ◌-◌}
use Rattle.modulation.proofs.tx.Tx.fill_rising.Given as goal

abbrev pub invariant-loop-written : goal.invariant-loop-written
invariant-loop-written l = Going l.self (length l.initial.out) l.out l.pending l.wave l.resampler l.upto l.written l.from l.passes

abbrev pub decreases-loop-written : goal.decreases-loop-written
decreases-loop-written l = length l.initial.out + 2 - l.passes
