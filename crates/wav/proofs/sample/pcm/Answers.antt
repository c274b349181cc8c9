-- The test picks the case. Assumes nothing.
use borrow.Author.Tests.{lt-ltb, le-ltb}
use Rattle.wav.specs.Sample.{pcm_of}
use Rattle.wav.proofs.sample.pcm.Goals as goal

pub returns-then-n-half : goal.returns-then-n-half
unfolding pcm_of
returns-then-n-half c = rw (lt-ltb _ _ c.if-n-half.true) c.part.ensures

pub returns : goal.returns
unfolding pcm_of
returns c = rw (le-ltb _ _ c.if-n-half.false, c.part-2.ensures)
