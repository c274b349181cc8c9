-- `resample::all_calls` meets its contract. The invariant: the calls so far, before what the rest does, are what the whole list does. Assumes nothing.
use Rattle.calls.proofs.Calls.{after-start, processed-step, processed-end}
use native.Mathlib.Omega.{arith}
use mathlib.Core.Path.{◌≡◌, sym, ◌∙◌}
use Prim.Native.Nat.{zero-le}
use Rattle.calls.proofs.resample.all_calls.Goals as goal

pub loop-i-init : goal.loop-i-init
loop-i-init c = (record { read = zero-le; written = zero-le }, after-start _)

pub one_call-place-requires : goal.one_call-place-requires
one_call-place-requires c = (c.loop-i.invariant.0, omega (arith, c.loop-i-test.true, c.min-calls.ensures, c.loop-i.auto.answers))

pub loop-i-preserved : goal.loop-i-preserved
loop-i-preserved c =
    let l = c.loop-i in
    let s = c.one_call-place.ensures in
    let t = c.loop-i-test.true in
    let n = c.min-calls.ensures in
    (s.within, processed-step _ _ _ _ (omega (arith, t, n)) (omega (arith, t, n, l.auto.answers)) _ _ _ _ _ l.invariant.0.written s.stepped ∙ l.invariant.1)

pub returns : goal.returns
returns c =
    let l = c.loop-i in
    let n = c.min-calls in
    let e : l.i ≡ n.result = omega (arith, l.auto.i-end, c.loop-i-test.false) in
    rw (← e) (sym (processed-end _ l.i _ (λ h. omega (arith, h, e, n.ensures, l.auto.answers)) _ _ _ l.place.written) ∙ l.invariant.1)
