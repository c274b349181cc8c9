use borrow.Author.Tests.{le-leb, lt-leb}
use native.Mathlib.Omega.{arith}
use Rattle.modulation.specs.Bits.{place_after}
use Rattle.modulation.proofs.bits.place_after.Goals as goal

pub returns-then-next-ge-MOST_BITS : goal.returns-then-next-ge-MOST_BITS
unfolding place_after
returns-then-next-ge-MOST_BITS c = (rw (le-leb _ _ c.if-next-ge-MOST_BITS.true), omega arith)

pub returns-else-next-ge-MOST_BITS : goal.returns-else-next-ge-MOST_BITS
unfolding place_after
returns-else-next-ge-MOST_BITS c = (rw (lt-leb _ _ c.if-next-ge-MOST_BITS.false), omega arith)
