-- `Tx::pending_numbers` meets its contract. Assumes nothing.
use Rattle.modulation.specs.TxRep.{modulator_of, sender_of}
use Rattle.modulation.proofs.tx.Tx.pending_numbers.Goals as goal

pub returns : goal.returns
unfolding sender_of modulator_of
returns c = c.sample_places.ensures
