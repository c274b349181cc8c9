-- `resampler::show_numbers` meets its contract: the test is the definition's. Assumes nothing.
use borrow.Author.Tests.{lt-ltb, le-ltb}
use Rattle.snapshot.proofs.StateCalls.{front-put}
use Rattle.snapshot.proofs.resampler.show_numbers.Goals as goal

pub returns-then-state-lt753 : goal.returns-then-state-lt753
returns-then-state-lt753 c = rw (lt-ltb _ _ c.if-state-lt753.true)

pub returns : goal.returns
returns c = rw (le-ltb _ _ c.if-state-lt753.false) (front-put 753 _ _ _ c.put_numbers.ensures)
