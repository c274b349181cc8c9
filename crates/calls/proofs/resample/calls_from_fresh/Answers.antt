-- `resample::calls_from_fresh` meets its contract: what `new` ensures says which of the two cases holds. Assumes nothing.
use Rattle.calls.proofs.Calls.{rates-accepted, rates-refused}
use Rattle.calls.specs.Resample.{resample_run}
use Rattle.calls.proofs.resample.calls_from_fresh.Goals as goal

pub returns-in-Err : goal.returns-in-Err
unfolding resample_run
returns-in-Err c = rw (rates-refused _ _ _ _ (rw c.in-Err.is at c.new-made.ensures.state_value))

pub returns-in-Ok : goal.returns-in-Ok
unfolding resample_run
returns-in-Ok c =
    let a = rates-accepted _ _ _ (rw c.in-Ok.is at c.new-made.ensures.state_value) in
    rw (a.0, ← a.1) c.all_calls.ensures
