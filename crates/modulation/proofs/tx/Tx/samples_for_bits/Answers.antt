-- `Tx::samples_for_bits` meets its contract: the limit is the definition's, and the product does not overflow. Assumes nothing.
use Rattle.modulation.specs.TxRep.{modulator_of, sender_of}
use Rattle.modulation.specs.Tx.{duration_of}
use borrow.Author.Tests.{lt-ltb, le-ltb}
use Rattle.modulation.proofs.tx.Tx.samples_for_bits.Goals as goal

pub returns-then-n-gt1048576 : goal.returns-then-n-gt1048576
unfolding duration_of
returns-then-n-gt1048576 c = rw (lt-ltb _ _ c.if-n-gt1048576.true)

pub returns : goal.returns
unfolding duration_of sender_of modulator_of
returns c = rw (le-ltb _ _ c.if-n-gt1048576.false, c.nearest.ensures)
