-- `tx::check` meets its contract: the tests are the definition's, in its order. Assumes nothing.
use Rattle.modulation.specs.Tx.{read_refused}
use Rattle.refusal.specs.Refusals.{first}
use borrow.Author.Tests.{lt-ltb, le-ltb}
use Rattle.modulation.proofs.tx.check.Goals as goal

pub returns-then-n-gt1024 : goal.returns-then-n-gt1024
unfolding read_refused first
returns-then-n-gt1024 c = rw (lt-ltb _ _ c.if-n-gt1024.true)

pub returns-then-served-n-gt4294967296 : goal.returns-then-served-n-gt4294967296
unfolding read_refused first
returns-then-served-n-gt4294967296 c = rw (le-ltb _ _ c.if-n-gt1024.false, lt-ltb _ _ c.if-served-n-gt4294967296.true)

pub returns : goal.returns
unfolding read_refused first
returns c = rw (le-ltb _ _ c.if-n-gt1024.false, le-ltb _ _ c.if-served-n-gt4294967296.false)
