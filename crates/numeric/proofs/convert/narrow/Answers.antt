-- `numeric::convert::narrow` meets its contract: with the sign off the pattern is rounded as the value is, and the sign is put back. Assumes nothing.
use Rattle.std.proofs.Common.{T, sym, ap, ◌∙◌, subst, arith}
use lib.Ieee.Compare.{differs_from_itself}
use Rattle.numeric.proofs.Whole.{not-nan}
use Rattle.numeric.specs.Convert.{narrowed}
use Rattle.numeric.proofs.Narrow.{narrowed-nan, signed_below, signed-number, narrow-law}
use Rattle.numeric.proofs.convert.narrow.Goals as goal

pub returns-then-x : goal.returns-then-x
returns-then-x c = narrowed-nan ∙ ap narrowed (sym (differs_from_itself _ (subst T (sym c.if-x.true) tt)))

pub float_to_bits-b : goal.float_to_bits-b
float_to_bits-b c = not-nan _ c.if-x.false

pub overflow_mul-result : goal.overflow_mul-result
overflow_mul-result c = omega (arith, signed_below _ _ (subst T (sym c.well_formed.0.1) tt) c.narrow_bits-kept.ensures)

pub overflow_add-result : goal.overflow_add-result
overflow_add-result c = omega (arith, signed_below _ _ (subst T (sym c.well_formed.0.1) tt) c.narrow_bits-kept.ensures)

pub overflow_cast-result : goal.overflow_cast-result
overflow_cast-result c = omega (arith, signed_below _ _ (subst T (sym c.well_formed.0.1) tt) c.narrow_bits-kept.ensures)

pub float_from_bits-result : goal.float_from_bits-result
float_from_bits-result c = rw c.narrow_bits-kept.ensures (signed-number _ _)

pub returns : goal.returns
returns c = rw c.narrow_bits-kept.ensures (narrow-law _ (subst T (sym c.well_formed.0.1) tt) (not-nan _ c.if-x.false))
