-- A pattern that the test lets pass is no NaN's. Assumes nothing.
use Rattle.std.proofs.Common.{le-ltb}
use lib.Ieee.Bits.{nan_bits_above}
use Rattle.replay.proofs.floats.double.Goals as goal

pub float_from_bits-result : goal.float_from_bits-result
float_from_bits-result c = rw (nan_bits_above _ _, le-ltb _ _ c.if-pattern-gt9218868437227405312.false) tt
