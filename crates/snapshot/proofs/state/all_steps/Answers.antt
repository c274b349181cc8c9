-- `state::all_steps` meets its contract. The invariant: what the rest makes of the receiver is what the whole script makes of it. Assumes nothing.
use Rattle.snapshot.proofs.StateCalls.{after-start, after-step, after-end}
use native.Mathlib.Omega.{arith}
use mathlib.Core.Path.{sym, ◌∙◌}
use Prim.Native.Nat.{zero-le}
use Rattle.snapshot.proofs.state.all_steps.Goals as goal

pub loop-i-init : goal.loop-i-init
loop-i-init c = (record { read = zero-le }, after-start _ _ _ _)

pub loop-i-preserved : goal.loop-i-preserved
loop-i-preserved c =
    let l = c.loop-i in
    let m = c.one_step-spot.ensures in
    (m.stands, after-step c.args.script.now l.i l.spot c.one_step-spot.result _ m _ _ (omega (arith, c.loop-i-test.true)) ∙ l.invariant.1)

pub returns : goal.returns
returns c =
    let l = c.loop-i in
    sym (after-end l.i _ (omega (arith, c.loop-i-test.false, l.auto.i-end)) _ _ _) ∙ l.invariant.1
