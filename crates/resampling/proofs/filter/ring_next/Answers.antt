-- `filter::ring_next` meets its contract: each arm returns what the definition picks. Assumes nothing.
use borrow.Author.Tests.{le-leb, lt-leb}
use Rattle.resampling.specs.FilterRep.{ring_next}
use native.Mathlib.Omega.{arith}
use Rattle.resampling.proofs.filter.ring_next.Goals as goal

pub returns-then-next-n : goal.returns-then-next-n
unfolding ring_next
returns-then-next-n c = (rw (le-leb _ _ c.if-next-n.true), omega arith)

pub returns-else-next-n : goal.returns-else-next-n
unfolding ring_next
returns-else-next-n c = (rw (lt-leb _ _ c.if-next-n.false), omega arith)
