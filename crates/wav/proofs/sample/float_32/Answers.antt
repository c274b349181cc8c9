-- The pattern that the test lets pass is no NaN's. Assumes nothing.
use Rattle.wav.proofs.SampleLaws.{is-nan, zero-over-zero}
use lib.Ieee.Bits.{nan_bits_is, nan_bits_above}
use lib.Ieee.{binary32}
use mathlib.Core.Path.{refl, sym, ◌∙◌}
use borrow.Author.Tests.{lt-ltb, le-ltb}
use Rattle.wav.specs.Sample.{float_of}
use Rattle.wav.proofs.sample.float_32.Goals as goal

pub returns-then-bits-gt2139095040 : goal.returns-then-bits-gt2139095040
unfolding float_of
returns-then-bits-gt2139095040 c = zero-over-zero ∙ sym (is-nan _ (sym (nan_bits_is binary32 _) ∙ (nan_bits_above binary32 _ ∙ lt-ltb _ _ c.if-bits-gt2139095040.true)))

pub float_from_bits-result : goal.float_from_bits-result
float_from_bits-result c = rw (nan_bits_above _ _, le-ltb _ _ c.if-bits-gt2139095040.false) tt

pub returns : goal.returns
unfolding float_of
returns c = refl
