-- From the next code on they do what the whole does from the start on. Assumes nothing.
use Rattle.tide.proofs.Moves.{going_start, going_on, going_end}
use Rattle.tide.proofs.decoder.Decoder.feed.Goals as goal

pub loop-code-init : goal.loop-code-init
loop-code-init c = going_start _ _ _

pub loop-code-preserved : goal.loop-code-preserved
loop-code-preserved c = going_on _ _ _ _ _ _ _ _ c.loop-code.invariant c.loop-code-test.true (rw (← c.happening_of.ensures) c.after-f.ensures)

pub returns : goal.returns
returns c = going_end _ _ _ _ _ _ c.loop-code.invariant c.loop-code.auto.code-index-end c.loop-code-test.false
