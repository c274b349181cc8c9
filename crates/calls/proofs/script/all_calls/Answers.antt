-- Call by call, as the definition takes them. Assumes nothing.
use Rattle.std.proofs.Common.{◌≡◌, ◌≤◌, ◌+◌, ◌*◌, length, sym, ◌∙◌, arith}
use Prim.Native.Nat.{zero-le}
use Rattle.calls.proofs.Steps.{send-start, send-step, send-end, sender-start, sender-step, sender-end}
use Rattle.calls.proofs.script.all_calls.Goals as goal

pub loop-i-init : goal.loop-i-init
loop-i-init g c = let s = g.S.Scripted.sends in ((zero-le, zero-le), send-start s _ _ _ _ _ _, sender-start s _ _ _ _ _)

pub one_call-place-requires : goal.one_call-place-requires
one_call-place-requires g c =
    let i = c.loop-i.invariant.0 in
    (i.0, i.1, omega (arith, c.loop-i-test.true, c.min-calls.ensures, c.loop-i.auto.answers))

pub loop-i-preserved : goal.loop-i-preserved
loop-i-preserved g c =
    let l = c.loop-i in
    let s = g.S.Scripted.sends in
    let o = c.one_call-place.ensures in
    let script = c.args.script.now in
    let room : 3 * l.i + 3 ≤ length l.answers = omega (arith, c.loop-i-test.true, c.min-calls.ensures, l.auto.answers) in (
      o.within,
      send-step s script l.i _ _ room _ _ _ _ _ o.stepped _ _ (omega (arith, c.loop-i-test.true)) ∙ l.invariant.1,
      sender-step s script l.i _ _ room _ _ _ _ _ o.stepped _ _ (omega (arith, c.loop-i-test.true)) ∙ l.invariant.2,
    )

pub returns-clause-answers_after : goal.returns-clause-answers_after
returns-clause-answers_after g c =
    let l = c.loop-i in
    let n = c.min-calls in
    let e : l.i ≡ n.result = omega (arith, l.auto.i-end, c.loop-i-test.false) in
    rw (← n.ensures) (sym (send-end g.S.Scripted.sends l.i n.result e _ _ _ _ _ l.place.written (3 * l.i)) ∙ l.invariant.1)

pub returns-clause-state_value : goal.returns-clause-state_value
returns-clause-state_value g c =
    let l = c.loop-i in
    let n = c.min-calls in
    let e : l.i ≡ n.result = omega (arith, l.auto.i-end, c.loop-i-test.false) in
    rw (← n.ensures) (sym (sender-end g.S.Scripted.sends l.i n.result e _ _ _ _) ∙ l.invariant.2)
