-- What each turn reads stands behind what was read before. Assumes nothing.
use Rattle.listen_app.proofs.Hearing.{heard-none, heard-more}
use Rattle.listen_app.proofs.session.read_all.Goals as goal

pub loop-init : goal.loop-init
loop-init g c = heard-none _ c.requires

pub loop-preserved : goal.loop-preserved
loop-preserved g c = heard-more _ _ _ c.loop.invariant (rw c.in-Some.is at c.in-Ok.ensures)

pub returns-then-not-goes_on : goal.returns-then-not-goes_on
returns-then-not-goes_on g c = heard-more _ _ _ c.loop.invariant (rw c.in-Some.is at c.in-Ok.ensures)
