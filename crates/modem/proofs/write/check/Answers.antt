-- `write::check` meets its contract: the tests are the definition's, in its order. Assumes nothing.
use borrow.Author.Tests.{lt-ltb, le-ltb}
use Rattle.refusal.specs.Refusals.{first}
use Rattle.modem.specs.Write.{refused_by}
use Rattle.modem.proofs.write.check.Goals as goal

pub returns-then-n-gt1024 : goal.returns-then-n-gt1024
unfolding refused_by first
returns-then-n-gt1024 c = rw (lt-ltb _ _ c.if-n-gt1024.true)

pub returns-then-not-all_in_range : goal.returns-then-not-all_in_range
unfolding refused_by first
returns-then-not-all_in_range c = rw (le-ltb _ _ c.if-n-gt1024.false, ← c.all_in_range.ensures, c.if-not-all_in_range.true-raw)

pub returns-then-accepted-n-gt4294967296 : goal.returns-then-accepted-n-gt4294967296
unfolding refused_by first
returns-then-accepted-n-gt4294967296 c = rw (le-ltb _ _ c.if-n-gt1024.false, ← c.all_in_range.ensures, c.if-not-all_in_range.false-raw, lt-ltb _ _ c.if-accepted-n-gt4294967296.true)

pub returns-then-waiting-gt409 : goal.returns-then-waiting-gt409
unfolding refused_by first
returns-then-waiting-gt409 c = rw (le-ltb _ _ c.if-n-gt1024.false, ← c.all_in_range.ensures, c.if-not-all_in_range.false-raw, le-ltb _ _ c.if-accepted-n-gt4294967296.false, lt-ltb _ _ c.if-waiting-gt409.true)

pub returns : goal.returns
unfolding refused_by first
returns c = rw (le-ltb _ _ c.if-n-gt1024.false, ← c.all_in_range.ensures, c.if-not-all_in_range.false-raw, le-ltb _ _ c.if-accepted-n-gt4294967296.false, le-ltb _ _ c.if-waiting-gt409.false)
