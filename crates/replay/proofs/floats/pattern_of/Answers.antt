-- What equals itself is no NaN. Assumes nothing.
use Rattle.numeric.proofs.Whole.{not-nan}
use Rattle.replay.proofs.floats.pattern_of.Goals as goal

pub float_to_bits-result : goal.float_to_bits-result
float_to_bits-result c = not-nan _ c.if-x.false
