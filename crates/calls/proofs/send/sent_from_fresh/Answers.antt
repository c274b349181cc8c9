-- `send::sent_from_fresh` meets its contract. Assumes nothing.
use mathlib.Core.Path.{ap, ◌∙◌}
use Rattle.calls.specs.Send.{Sent}
use Rattle.calls.proofs.Made.{count-given}
use Rattle.calls.proofs.Steps.{sent-run}
use Rattle.calls.proofs.send.sent_from_fresh.Goals as goal

pub returns : goal.returns
returns c = rw (c.unwrap_or.ensures ∙ count-given c.sender_from_fresh-s.result.answer) (ap (λ (x : Sent). x.run) c.sender_from_fresh-s.ensures.state_after ∙ sent-run _ _ _ _ _ _)
