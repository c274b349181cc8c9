-- `filter::ring_back` meets its contract: each arm returns what the definition picks. Assumes nothing.
use borrow.Author.Tests.{eq-eqb, ne_eqb}
use Rattle.resampling.specs.FilterRep.{ring_back}
use native.Mathlib.Omega.{arith}
use Rattle.resampling.proofs.filter.ring_back.Goals as goal

pub returns-then-idx-eq0 : goal.returns-then-idx-eq0
unfolding ring_back
returns-then-idx-eq0 c = (rw (eq-eqb _ _ c.if-idx-eq0.true), omega arith)

pub returns-else-idx-eq0 : goal.returns-else-idx-eq0
unfolding ring_back
returns-else-idx-eq0 c = (rw (ne_eqb _ _ c.if-idx-eq0.false), omega arith)
