-- `resample::scripted_from_fresh` meets its contract: what `new` ensures says which of the two cases holds. Assumes nothing.
use mathlib.Core.Path.{refl}
use Rattle.calls.proofs.Calls.{script-refused, script-accepted}
use Rattle.calls.proofs.resample.scripted_from_fresh.Goals as goal

pub returns-in-Err : goal.returns-in-Err
returns-in-Err c = record { state_after = script-refused _ _ _ _ (rw c.in-Err.is at c.new-made.ensures.state_value) _ _ _ _ _ refl }

pub returns-in-Ok : goal.returns-in-Ok
returns-in-Ok c =
    let s = c.all_scripted-e.ensures in record { state_after = script-accepted _ _ _ _ (rw c.in-Ok.is at c.new-made.ensures.state_value) _ _ _ _ _ _ refl s.answers_after s.state_value }
