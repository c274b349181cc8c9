-- `table_tx::begin` meets its contract: a symbol goes on, or the next begins. Assumes nothing.
use Rattle.modulation.proofs.TableSteps.{goes_on, begins-so}
use Rattle.modulation.proofs.table_tx.begin.Goals as goal

pub returns-then-k : goal.returns-then-k
returns-then-k c = goes_on _ _ c.requires c.if-k.true

pub returns : goal.returns
returns c = begins-so _ _ c.requires _ c.if-k.false c.take_bit-t.ensures
