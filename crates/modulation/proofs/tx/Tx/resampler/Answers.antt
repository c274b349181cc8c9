-- `Tx::resampler` meets its contract: it is a part of the state. Assumes nothing.
use mathlib.Core.Path.{refl}
use Rattle.modulation.specs.TxRep.{modulator_of, sender_of}
use Rattle.modulation.proofs.tx.Tx.resampler.Goals as goal

pub returns : goal.returns
unfolding sender_of modulator_of
returns c = refl
