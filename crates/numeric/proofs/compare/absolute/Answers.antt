-- `numeric::compare::absolute` meets its contract: the library's absolute value is the definition's. Assumes nothing.
use Rattle.std.proofs.Common.{◌≡◌, false, refl, ◌∙◌}
use lib.Ieee.{Float, nan, inf, fin}
use Rattle.std.specs.Float.{float_with_sign}
use Rattle.numeric.specs.F64.{magnitude}
use Rattle.numeric.proofs.compare.absolute.Goals as goal

same : (x : Float) → float_with_sign false x ≡ magnitude x
unfolding magnitude float_with_sign
same nan = refl
same (inf s) = refl
same (fin s m e) = refl

pub returns : goal.returns
returns c = c.abs.ensures.value ∙ same _
