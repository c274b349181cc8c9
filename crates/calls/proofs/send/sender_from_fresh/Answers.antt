-- What `new` ensures says which of the two cases holds.
use mathlib.Core.Path.{refl}
use Rattle.calls.proofs.Steps.{sender-refused, sender-accepted}
use Rattle.calls.proofs.send.sender_from_fresh.Goals as goal

pub returns-in-Err : goal.returns-in-Err
returns-in-Err c = record { state_after = sender-refused _ _ _ c.role_of.ensures _ _ (rw c.in-Err.is at c.new-made.ensures) _ _ _ _ _ refl }

pub returns-in-Ok : goal.returns-in-Ok
returns-in-Ok c =
    let s = c.all_calls-e.ensures in record { state_after = sender-accepted _ _ _ c.role_of.ensures _ _ (rw c.in-Ok.is at c.new-made.ensures) _ _ _ _ _ _ refl s.answers_after s.state_value }
