-- `tx::amplitude_ok` meets its contract: each arm is what `&&` picks, and 0.0 and 1.0 are the same numbers in both formats. Assumes nothing.
use Rattle.modulation.specs.Tx.{amplitude_refused}
use lib.Ieee.{of_bits}
use Rattle.modulation.proofs.tx.amplitude_ok.Goals as goal

pub returns-then-a : goal.returns-then-a
unfolding amplitude_refused of_bits
returns-then-a c = rw c.if-a.true

pub returns-else-a : goal.returns-else-a
unfolding amplitude_refused of_bits
returns-else-a c = rw c.if-a.false
