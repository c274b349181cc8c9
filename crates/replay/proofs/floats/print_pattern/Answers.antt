-- What equals itself is no NaN. Assumes nothing.
use Rattle.numeric.proofs.Whole.{not-nan}
use Rattle.replay.proofs.floats.print_pattern.Goals as goal

pub float_to_bits-x : goal.float_to_bits-x
float_to_bits-x c = not-nan _ c.if-x.false
