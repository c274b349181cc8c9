-- What each turn reads stands behind what was read before. Assumes nothing.
use native.Mathlib.Omega.{arith}
use Rattle.console.proofs.Blocks.{read_none, some_more}
use Rattle.console.proofs.text.read_all.Goals as goal

pub loop-init : goal.loop-init
loop-init g c = read_none _ c.requires (omega arith)

pub returns-in-Err-clause-failed : goal.returns-in-Err-clause-failed
returns-in-Err-clause-failed g c = some_more _ _ _ c.loop.invariant c.in-Err.ensures.failed

pub returns-then-not-r-clause-read : goal.returns-then-not-r-clause-read
returns-then-not-r-clause-read g c = some_more _ _ _ c.loop.invariant (rw c.in-Ok-Some.field-0-is at c.in-Ok-Some.ensures.read)

pub loop-preserved : goal.loop-preserved
loop-preserved g c = some_more _ _ _ c.loop.invariant (rw c.in-Ok-Some.field-0-is at c.in-Ok-Some.ensures.read)
