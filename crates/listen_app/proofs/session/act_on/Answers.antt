-- Each of the progress has its own act. Assumes nothing.
use Rattle.listen_app.proofs.Hearing.{acted-at}
use Rattle.listen_app.specs.BlockReaderRep.{gathered}
use Rattle.listen_app.specs.Listener.{view, acted_by}
use mathlib.Core.Path.{refl, ap}
use Rattle.listen_app.proofs.session.act_on.Goals as goal

pub returns-in-None : goal.returns-in-None
unfolding acted_by
returns-in-None c = acted-at _ _ c.in-None.is refl

pub returns-in-Bad : goal.returns-in-Bad
unfolding acted_by
returns-in-Bad c = acted-at _ _ c.in-Bad.is refl

pub returns-in-Start : goal.returns-in-Start
unfolding acted_by
returns-in-Start c =
    let a = c.args in
    acted-at _ _ c.in-Start.is (ap (view (gathered a.reader a.block.now)) c.with_rate.ensures.same)

pub returns-in-Block : goal.returns-in-Block
unfolding acted_by
returns-in-Block c =
    let a = c.args in
    acted-at _ _ c.in-Block.is (ap (view (gathered a.reader a.block.now)) c.write_block.ensures.same)
