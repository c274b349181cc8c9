-- The product fits. Assumes nothing.
use native.Mathlib.Omega.{arith}
use Rattle.bell103.proofs.Summing.{product_small}
use Rattle.bell103.proofs.durations.exact_of.Goals as goal

pub overflow_mul-product : goal.overflow_mul-product
overflow_mul-product c = omega (arith, product_small _ _ c.requires.0 c.requires.1)
