-- `Tx::pending` meets its contract: bits wait where their number is not 0. Assumes nothing.
use Rattle.modulation.specs.TxRep.{modulator_of, sender_of}
use Rattle.modulation.proofs.Calls.{bits-wait}
use Rattle.modulation.proofs.tx.Tx.pending.Goals as goal

pub returns : goal.returns
unfolding sender_of modulator_of
returns c = bits-wait _ _ _
