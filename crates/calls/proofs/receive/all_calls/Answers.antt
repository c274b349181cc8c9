-- `receive::all_calls` meets its contract. The invariant: the calls so far, before what the rest does, are what the whole list does. Assumes nothing.
use Rattle.calls.proofs.ReceiverCalls.{receive-start, receive-step, receive-end}
use native.Mathlib.Omega.{arith}
use mathlib.Core.Path.{◌≡◌, sym, ◌∙◌}
use Prim.Native.Nat.{◌*◌, zero-le}
use Rattle.calls.proofs.receive.all_calls.Goals as goal

pub loop-i-init : goal.loop-i-init
loop-i-init c = (record { read = zero-le; bytes = zero-le; events = zero-le }, receive-start _ _ _ _ _ _ _)

pub one_call-place-requires : goal.one_call-place-requires
one_call-place-requires c = (c.loop-i.invariant.0, omega (arith, c.loop-i.auto.answers, c.loop-i-test.true, c.min-calls.ensures))

pub loop-i-preserved : goal.loop-i-preserved
loop-i-preserved c =
    let l = c.loop-i in
    let t = c.loop-i-test.true in
    let o = c.one_call-place.ensures in
    let n = c.min-calls.ensures in
    let k = c.call_in.ensures in
    (o.within, receive-step _ _ _ _ (omega (arith, t, n, l.auto.answers)) _ _ _ _ _ _ _ l.invariant.0 (rw k at o.stepped) _ _ (omega (arith, t)) ∙ l.invariant.1)

pub returns : goal.returns
returns c =
    let l = c.loop-i in
    let n = c.min-calls in
    let e : l.i ≡ n.result = omega (arith, l.auto.i-end, c.loop-i-test.false) in
    rw (← n.ensures) (sym (receive-end l.i n.result e _ _ _ _ _ _ l.place.bytes l.place.events (6 * l.i)) ∙ l.invariant.1)
