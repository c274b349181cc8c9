-- The invariant: the first i of them stand at the front, and from place i on nothing has moved. Assumes nothing.
use Prim.Native.Nat.{◌+◌}
use mathlib.Core.Path.{sym, subst}
use native.Mathlib.Omega.{arith}
use lib.ListN.{set}
use Rattle.modem.proofs.Moves.{Moving, move-turn}
use Rattle.modem.proofs.queue.to_front.Goals as goal

pub loop-i-preserved : goal.loop-i-preserved
loop-i-preserved g c =
    let l = c.loop-i in
    subst (λ x. Moving c.args.k (l.i + 1) c.args.held.now (set l.held l.i x)) (sym c.index-held-i.is)
    (move-turn _ l.i _ _ _ l.invariant (omega (arith, c.loop-i-test.true, c.requires)))
