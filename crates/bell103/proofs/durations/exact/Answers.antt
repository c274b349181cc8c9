-- 1, then 7; else one product, divided and rounded. Assumes nothing.
use mathlib.Core.Path.{refl, sym, ◌∙◌}
use native.Mathlib.Omega.{arith}
use borrow.Author.Tests.{lt-ltb}
use Rattle.bell103.specs.Durations.{exact_reply}
use Rattle.refusal.specs.declared.Refusal.TheVariants.{Rate, TooManyBits}
use Rattle.bell103.proofs.Summing.{rate-high, product_small, measures_none, measures}
use Rattle.bell103.proofs.durations.exact.Goals as goal

pub returns-then-n-gt-LONGEST : goal.returns-then-n-gt-LONGEST
unfolding exact_reply
returns-then-n-gt-LONGEST c = measures_none _ _ TooManyBits (rw (c.in_ok-check_rate.ensures.admitted, lt-ltb _ _ c.if-n-gt-LONGEST.true) refl)

pub exact_of-exact-requires : goal.exact_of-exact-requires
exact_of-exact-requires c = (rate-high _ c.in_ok-check_rate.ensures.admitted, c.if-n-gt-LONGEST.false)

pub overflow_mul-n : goal.overflow_mul-n
overflow_mul-n c =
    omega (arith, product_small _ _ (rate-high _ c.in_ok-check_rate.ensures.admitted) c.if-n-gt-LONGEST.false)

pub returns : goal.returns
returns c =
    measures _ _ _ _ c.exact_of-exact.ensures c.nearest.ensures c.in_ok-check_rate.ensures.admitted c.if-n-gt-LONGEST.false
