-- `state::place_numbers` meets its contract. Assumes nothing.
use mathlib.Core.Path.{◌∙◌}
use Rattle.snapshot.proofs.StateCalls.{truth-is}
use native.Mathlib.Omega.{arith}
use lib.Dec.{le→leb}
use lib.Ieee.{in_float}
use Rattle.snapshot.proofs.state.place_numbers.Goals as goal

pub int_to_float-result : goal.int_to_float-result
unfolding in_float
int_to_float-result c = omega (arith, le→leb, c.requires)

pub returns : goal.returns
returns c = rw (c.from.ensures ∙ truth-is _)
