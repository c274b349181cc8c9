-- The invariant: the first i samples stand at the front, the rest of which is as it was. Assumes nothing.
use native.Mathlib.Omega.{arith}
use lib.ListN.{length-set}
use Rattle.numeric.proofs.Loops.{over-turn}
use Rattle.modem.proofs.samples.widen_into.Goals as goal

pub loop-i-preserved : goal.loop-i-preserved
loop-i-preserved c =
    let l = c.loop-i in
    let t = c.loop-i-test.true in
    (rw (l.invariant.0, c.widen.ensures) (over-turn _ _ l.i _ t (omega (arith, t, c.requires))), simp length-set l.invariant.1)
