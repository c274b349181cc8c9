-- What is different from itself is a NaN. Assumes nothing.
use Rattle.std.proofs.Common.{refl}
use Rattle.numeric.proofs.Whole.{not-nan}
use Rattle.send_app.proofs.NearestLaws.{nan-bits}
use Rattle.send_app.proofs.bytes.pattern_of.Goals as goal

pub returns-then-x : goal.returns-then-x
returns-then-x c = nan-bits _ c.if-x.true

pub float_to_bits-result : goal.float_to_bits-result
float_to_bits-result c = not-nan _ c.if-x.false

pub returns : goal.returns
returns c = refl
