-- `tx::scale` meets its contract: by that of `narrow`. Assumes nothing.
use Rattle.modulation.specs.Modulator.{scaled}
use Rattle.modulation.proofs.modulate.scale.Goals as goal

pub returns : goal.returns
unfolding scaled
returns c = rw c.narrow.ensures
