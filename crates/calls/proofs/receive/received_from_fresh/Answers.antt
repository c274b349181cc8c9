-- `receive::received_from_fresh` meets its contract: what `new` ensures says which of the two cases holds. Assumes nothing.
use Rattle.calls.proofs.ReceiveLaws.{rate-accepted, rate-refused}
use Rattle.calls.specs.Receive.{receive_run}
use Rattle.calls.proofs.receive.received_from_fresh.Goals as goal

pub returns-in-Err : goal.returns-in-Err
unfolding receive_run
returns-in-Err c = rw (rate-refused _ _ _ _ (rw c.in-Err.is at c.new-made.ensures))

pub returns-in-Ok : goal.returns-in-Ok
unfolding receive_run
returns-in-Ok c =
    let a = rate-accepted _ _ _ (rw c.in-Ok.is at c.new-made.ensures) in
    rw (a.0, ← c.role_of.ensures, ← a.1) c.all_calls.ensures
