-- `numeric::convert::narrow_plain` meets its contract: the rounded bits are those of the f32 taken as an f64, so that the cast is exact. Assumes nothing.
use Rattle.std.proofs.Common.{T, sym, subst, arith}
use Rattle.numeric.proofs.Narrow.{plain-number, plain-room, cut-number, cut-law, cut-casts}
use Rattle.numeric.proofs.convert.narrow_plain.Goals as goal

pub float_to_bits-b : goal.float_to_bits-b
float_to_bits-b c = plain-number _ c.requires

pub overflow_add-r : goal.overflow_add-r
overflow_add-r c = omega (arith, plain-room _ (subst T (sym c.well_formed.0.1) tt) c.requires)

pub overflow_add-r-2 : goal.overflow_add-r-2
overflow_add-r-2 c = omega (arith, plain-room _ (subst T (sym c.well_formed.0.1) tt) c.requires)

pub overflow_mul-r : goal.overflow_mul-r
overflow_mul-r c = omega (arith, plain-room _ (subst T (sym c.well_formed.0.1) tt) c.requires)

pub float_from_bits-result : goal.float_from_bits-result
float_from_bits-result c = cut-number _ (subst T (sym c.well_formed.0.1) tt) c.requires

pub float_to_float-result : goal.float_to_float-result
float_to_float-result c = cut-casts _ (subst T (sym c.well_formed.0.1) tt) c.requires

pub returns : goal.returns
returns c = cut-law _ (subst T (sym c.well_formed.0.1) tt) c.requires
