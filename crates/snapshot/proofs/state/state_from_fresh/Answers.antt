-- `state::state_from_fresh` meets its contract: the length and what `new` ensures say which of the cases holds. Assumes nothing.
use borrow.Author.Tests.{lt-ltb, le-ltb}
use Rattle.calls.proofs.ReceiveLaws.{rate-accepted, rate-refused}
use Rattle.snapshot.specs.ReceiverState.{state_run}
use Rattle.snapshot.proofs.state.state_from_fresh.Goals as goal

pub returns-then-state-lt909 : goal.returns-then-state-lt909
unfolding state_run
returns-then-state-lt909 c = rw (lt-ltb _ _ c.if-state-lt909.true)

pub returns-in-Err : goal.returns-in-Err
unfolding state_run
returns-in-Err c = rw (le-ltb _ _ c.if-state-lt909.false, rate-refused _ _ _ _ (rw c.in-Err.is at c.new-made.ensures))

pub returns-in-Ok : goal.returns-in-Ok
unfolding state_run
returns-in-Ok c =
    let a = rate-accepted _ _ _ (rw c.in-Ok.is at c.new-made.ensures) in
    rw (le-ltb _ _ c.if-state-lt909.false, a.0, ← c.role_of.ensures, ← a.1) c.show.ensures
