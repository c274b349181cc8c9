-- `table_tx::step` meets its contract: by those of its parts. Assumes nothing.
use Rattle.modulation.proofs.TableSteps.{steps-so}
use Rattle.modulation.proofs.table_tx.step.Goals as goal

pub returns : goal.returns
returns c =
    steps-so _ _ c.requires.0 c.args.h _ _ _ c.begin-b.ensures c.requires.2 c.hop_of.ensures c.turned-place.ensures
