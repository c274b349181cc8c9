-- The bits are few enough. Assumes nothing.
use Rattle.std.proofs.Common.{refl, arith}
use Rattle.send_app.proofs.CallLaws.{periods}
use Rattle.send_app.proofs.gauge.samples_for.Goals as goal

pub overflow_mul-result : goal.overflow_mul-result
overflow_mul-result c = record { fits = omega (arith, periods c.args.text.now, c.bits_for-bits.ensures, c.requires) }

pub overflow_add-result : goal.overflow_add-result
overflow_add-result c = record { fits = omega (arith, periods c.args.text.now, c.bits_for-bits.ensures, c.requires) }

pub overflow_cast-result : goal.overflow_cast-result
overflow_cast-result c = omega (arith, periods c.args.text.now, c.bits_for-bits.ensures, c.requires)

pub returns : goal.returns
returns c = (rw c.bits_for-bits.ensures refl, omega (arith, periods c.args.text.now, c.bits_for-bits.ensures, c.requires))
