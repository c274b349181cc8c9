-- `numeric::convert::in_range` meets its contract: each arm returns what `&&` picks, and 1.0 is the same number in both formats. Assumes nothing.
use lib.Ieee.{of_bits, neg}
use Rattle.numeric.specs.Convert.{in_range}
use Rattle.numeric.proofs.convert.in_range.Goals as goal

pub returns-then-x : goal.returns-then-x
unfolding in_range of_bits neg
returns-then-x c = rw c.if-x.true

pub returns-else-x : goal.returns-else-x
unfolding in_range of_bits neg
returns-else-x c = rw c.if-x.false
