-- `numeric::convert::is_plain` meets its contract: each arm returns what `&&` picks. Assumes nothing.
use Rattle.std.proofs.Common.{◌≡◌, false, not, T, sym, refl, ap, ◌∙◌, subst, le-leb}
use borrow.Author.Tests.{lt-leb}
use lib.Ieee.{is_nan, nan}
use lib.Ieee.Compare.{differs_from_itself}
use lib.Ieee.Bits.{is_true}
use Rattle.numeric.specs.Patterns.{plain}
use Rattle.numeric.proofs.Whole.{not-nan}
use Rattle.numeric.proofs.convert.is_plain.Goals as goal

no_nan : false ≡ plain nan
unfolding plain is_nan
no_nan = refl

pub returns-then-x : goal.returns-then-x
returns-then-x c = no_nan ∙ ap plain (sym (differs_from_itself _ (subst T (sym c.if-x.true) tt)))

pub float_to_bits-b : goal.float_to_bits-b
float_to_bits-b c = not-nan _ c.if-x.false

pub returns-then-b-ge4039728865751334912 : goal.returns-then-b-ge4039728865751334912
unfolding plain
returns-then-b-ge4039728865751334912 c = rw (is_true (not (is_nan c.args.x)) (not-nan _ c.if-x.false), le-leb _ _ c.if-b-ge4039728865751334912.true)

pub returns-else-b-ge4039728865751334912 : goal.returns-else-b-ge4039728865751334912
unfolding plain
returns-else-b-ge4039728865751334912 c = rw (is_true (not (is_nan c.args.x)) (not-nan _ c.if-x.false), lt-leb _ _ c.if-b-ge4039728865751334912.false)
