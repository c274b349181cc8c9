-- `state::last_numbers` meets its contract: each number is what the receiver says. Assumes nothing.
use mathlib.Core.Path.{◌∙◌}
use Rattle.snapshot.proofs.StateCalls.{truth-is}
use native.Mathlib.Omega.{arith}
use lib.Dec.{le→leb}
use lib.Ieee.{in_float}
use Rattle.snapshot.proofs.state.last_numbers.Goals as goal

pub int_to_float-result : goal.int_to_float-result
unfolding in_float
int_to_float-result c = omega (arith, le→leb, c.waiting-bytes.ensures.1)

pub int_to_float-result-2 : goal.int_to_float-result-2
unfolding in_float
int_to_float-result-2 c = omega (arith, le→leb, c.events_waiting-events.ensures.1)

pub int_to_float-result-3 : goal.int_to_float-result-3
unfolding in_float
int_to_float-result-3 c = omega (arith, le→leb, c.accepted-accepted.ensures.1)

pub returns : goal.returns
returns c = rw (c.block_number-block.ensures, c.from-gate.ensures ∙ truth-is _, c.from-up.ensures ∙ truth-is _, c.from-ever.ensures ∙ truth-is _, c.waiting-bytes.ensures.0, c.events_waiting-events.ensures.0, c.accepted-accepted.ensures.0, ← c.demodulator-demod.ensures, c.core-core.ensures)
