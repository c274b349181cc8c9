use Rattle.calls.proofs.ByKind.{amplitude-nan, amplitude-number}
use Rattle.calls.proofs.send.amplitude_in.Goals as goal

pub returns-then-bits-gt2139095040 : goal.returns-then-bits-gt2139095040
returns-then-bits-gt2139095040 c = amplitude-nan _ c.if-bits-gt2139095040.true

pub float_from_bits-result : goal.float_from_bits-result
float_from_bits-result c = amplitude-number _ c.if-bits-gt2139095040.false
