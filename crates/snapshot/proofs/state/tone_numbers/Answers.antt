-- `state::tone_numbers` meets its contract. Assumes nothing.
use mathlib.Core.Path.{◌∙◌}
use Rattle.snapshot.proofs.StateCalls.{truth-is}
use Rattle.snapshot.proofs.state.tone_numbers.Goals as goal

pub returns : goal.returns
returns c = rw (c.from-mid.ensures ∙ truth-is _, c.from-in_frame.ensures ∙ truth-is _, c.from-up.ensures ∙ truth-is _)
