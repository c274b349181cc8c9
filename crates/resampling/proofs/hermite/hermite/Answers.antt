-- `hermite::hermite` meets its contract: the code's operations are the definition's. Assumes nothing.
use mathlib.Core.Path.{refl}
use Rattle.resampling.specs.Filter.{hermite_at}
use Rattle.resampling.proofs.hermite.hermite.Goals as goal

pub returns : goal.returns
unfolding hermite_at
returns c = refl
