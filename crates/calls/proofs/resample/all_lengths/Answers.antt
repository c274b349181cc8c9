-- `resample::all_lengths` meets its contract. The invariant: the calls so far, before what the rest does, are what the whole list does. Assumes nothing.
use Rattle.calls.proofs.Calls.{lengths-step, lengths-end, after-start}
use native.Mathlib.Omega.{arith}
use mathlib.Core.Path.{◌≡◌, sym, ◌∙◌}
use Rattle.calls.proofs.resample.all_lengths.Goals as goal

pub loop-i-init : goal.loop-i-init
loop-i-init c = after-start _

pub one_length-requires : goal.one_length-requires
one_length-requires c = omega (arith, c.loop-i-test.true, c.min-calls.ensures, c.loop-i.auto.answers)

pub loop-i-preserved : goal.loop-i-preserved
loop-i-preserved c =
    let l = c.loop-i in
    let t = c.loop-i-test.true in
    let n = c.min-calls.ensures in
    lengths-step _ _ _ _ (omega (arith, t, n)) (omega (arith, t, n, l.auto.answers)) _ c.one_length.ensures ∙ l.invariant

pub returns : goal.returns
returns c =
    let l = c.loop-i in
    let n = c.min-calls in
    let e : l.i ≡ n.result = omega (arith, l.auto.i-end, c.loop-i-test.false) in
    rw (← e) (sym (lengths-end _ l.i _ (λ h. omega (arith, h, e, n.ensures, l.auto.answers)) _) ∙ l.invariant)
