use Rattle.send_app.specs.Call.{call_of, bit_periods}
use Rattle.std.proofs.Common.{arith}
use Rattle.send_app.proofs.call.bits_for.Goals as goal

-- src/call.rt:30:1
pub returns : goal.returns
unfolding call_of bit_periods
returns c = omega arith
