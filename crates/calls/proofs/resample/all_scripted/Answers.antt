-- `resample::all_scripted` meets its contract. The invariant: the calls so far, before what the rest does, are what the whole script does. Assumes nothing.
use Prim.Native.Nat.{◌+◌, ◌*◌, ◌≤◌, zero-le}
use mathlib.Core.Path.{◌≡◌, sym, ◌∙◌}
use native.Mathlib.Omega.{arith}
use lib.ListN.{length}
use Rattle.calls.proofs.Calls.{scripted-start, scripted-step, scripted-end, state-start, state-step, state-end}
use Rattle.calls.proofs.resample.all_scripted.Goals as goal

pub loop-i-init : goal.loop-i-init
loop-i-init c = (record { read = zero-le; written = zero-le }, scripted-start _ _ _ _ _ _, state-start _ _ _ _ _)

pub one_call-place-requires : goal.one_call-place-requires
one_call-place-requires c = (c.loop-i.invariant.0, omega (arith, c.loop-i-test.true, c.min-calls.ensures, c.loop-i.auto.answers))

pub returns : goal.returns
returns c =
    let l = c.loop-i in
    let n = c.min-calls in
    let e : l.i ≡ n.result = omega (arith, l.auto.i-end, c.loop-i-test.false) in record { answers_after = rw (← n.ensures) (sym (scripted-end l.i n.result e _ _ _ _ _ l.place.written (2 * l.i)) ∙ l.invariant.1); state_value = rw (← n.ensures) (sym (state-end l.i n.result e _ _ _ _) ∙ l.invariant.2) }

pub loop-i-preserved : goal.loop-i-preserved
loop-i-preserved c =
    let l = c.loop-i in
    let t = c.loop-i-test.true in
    let o = c.one_call-place.ensures in
    let script = c.args.script.now in
    let w = l.invariant.0.written in
    let room : 2 * l.i + 2 ≤ length l.answers = omega (arith, t, c.min-calls.ensures, l.auto.answers) in (
      o.within,
      scripted-step script l.i _ _ room _ _ _ _ _ w o.stepped _ _ (omega (arith, t)) ∙ l.invariant.1,
      state-step script l.i _ _ room _ _ _ _ _ w o.stepped _ _ (omega (arith, t)) ∙ l.invariant.2,
    )
