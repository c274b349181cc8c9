-- `sender::show_sender` meets its contract: the test is the definition's. Assumes nothing.
use borrow.Author.Tests.{lt-ltb, le-ltb}
use Rattle.snapshot.proofs.sender.show_sender.Goals as goal

pub returns-then-state-lt4921 : goal.returns-then-state-lt4921
returns-then-state-lt4921 c = rw (lt-ltb _ _ c.if-state-lt4921.true)

pub returns : goal.returns
returns c = rw (le-ltb _ _ c.if-state-lt4921.false) c.put_sender.ensures
