-- The pattern that the test lets pass is no NaN's. Assumes nothing.
use Rattle.wav.proofs.SampleLaws.{is-nan, zero-over-zero, narrow-nan}
use Rattle.numeric.specs.Convert.{narrowed}
use lib.Ieee.Bits.{nan_bits_is, nan_bits_above}
use lib.Ieee.{binary64}
use mathlib.Core.Path.{sym, ap, ◌∙◌}
use borrow.Author.Tests.{lt-ltb, le-ltb}
use Rattle.wav.specs.Sample.{float64_of}
use Rattle.wav.proofs.sample.float_64.Goals as goal

pub returns-then-bits-gt9218868437227405312 : goal.returns-then-bits-gt9218868437227405312
unfolding float64_of
returns-then-bits-gt9218868437227405312 c = zero-over-zero ∙ sym (ap narrowed (is-nan _ (sym (nan_bits_is binary64 _) ∙ (nan_bits_above binary64 _ ∙ lt-ltb _ _ c.if-bits-gt9218868437227405312.true))) ∙ narrow-nan)

pub float_from_bits-bits : goal.float_from_bits-bits
float_from_bits-bits c = rw (nan_bits_above _ _, le-ltb _ _ c.if-bits-gt9218868437227405312.false) tt

pub returns : goal.returns
unfolding float64_of
returns c = c.narrow.ensures
