-- `numeric::convert::wide_in_range` meets its contract: each arm returns what `&&` picks. Assumes nothing.
use lib.Ieee.{of_bits, neg}
use Rattle.numeric.specs.Convert.{in_range}
use Rattle.numeric.proofs.convert.wide_in_range.Goals as goal

pub returns-then-sample : goal.returns-then-sample
unfolding in_range of_bits neg
returns-then-sample c = rw c.if-sample.true

pub returns-else-sample : goal.returns-else-sample
unfolding in_range of_bits neg
returns-else-sample c = rw c.if-sample.false
