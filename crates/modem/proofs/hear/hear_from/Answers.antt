-- `hear::hear_from` meets its contract: the samples widened are the samples. Assumes nothing.
use Rattle.modem.proofs.Resampled.{all-heard}
use Rattle.modem.proofs.hear.hear_from.Goals as goal

pub returns : goal.returns
returns g c = all-heard _ _ _ _ _ _ c.widen_into.ensures.front c.requires.0.few c.hear.ensures
