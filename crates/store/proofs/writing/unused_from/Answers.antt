-- Behind the place looked at there is no 0A. Assumes nothing.
use mathlib.Core.Path.{◌≡◌, ◌∙◌}
use Prim.Native.Nat.{◌+◌, ◌-◌}
use native.Mathlib.Omega.{arith}
use Rattle.store.proofs.Placing.{behind-on, behind-found, behind-none}
use Rattle.store.proofs.writing.unused_from.Goals as goal

pub returns-then-buffer-at-eq10 : goal.returns-then-buffer-at-eq10
returns-then-buffer-at-eq10 c =
    let k : c.loop-at.at - 1 + 1 ≡ c.loop-at.at = omega (arith, c.loop-at-test.true) in
    k ∙ behind-found _ _ c.loop-at-test.true c.loop-at.invariant c.if-buffer-at-eq10.true

pub loop-at-preserved : goal.loop-at-preserved
loop-at-preserved c = behind-on c.args.buffer.now c.loop-at.at c.loop-at-test.true c.loop-at.invariant c.if-buffer-at-eq10.false

pub returns : goal.returns
returns c = behind-none _ c.loop-at.at (omega (arith, c.loop-at-test.false)) c.loop-at.invariant
