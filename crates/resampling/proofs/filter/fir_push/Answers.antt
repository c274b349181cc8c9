-- `filter::fir_push` meets its contract: a stored sample is the newest of the history, and the sum is over that. Assumes nothing.
use Rattle.resampling.proofs.Ring.{went-in}
use Rattle.resampling.proofs.filter.fir_push.Goals as goal

pub returns : goal.returns
returns c = went-in _ _ _ _ _ _ c.requires c.fir_sum.ensures
