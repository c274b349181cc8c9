-- `sender::sender_state_from_fresh` meets its contract. Assumes nothing.
use mathlib.Core.Path.{◌∙◌}
use Rattle.calls.proofs.Made.{count-given}
use Rattle.snapshot.specs.SenderState.{sender_state_run}
use Rattle.snapshot.proofs.SenderCalls.{sender-traced}
use Rattle.snapshot.proofs.sender.sender_state_from_fresh.Goals as goal

pub returns : goal.returns
unfolding sender_state_run
returns c = rw (c.unwrap_or.ensures ∙ count-given c.sender_from_fresh-s.result.answer) (sender-traced _ _ _ _ c.sender_from_fresh-s.ensures.state_after c.show_accepted.ensures)
