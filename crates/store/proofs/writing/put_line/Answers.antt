-- A byte more is stored. Assumes nothing.
use Rattle.store.proofs.Placing.{stored_more}
use Rattle.store.proofs.writing.put_line.Goals as goal

pub loop-k-preserved : goal.loop-k-preserved
loop-k-preserved c = stored_more _ _ _ _ _ c.requires.0 c.requires.1 c.loop-k-test.true c.loop-k.invariant
