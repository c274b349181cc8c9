-- `receive::take_events` meets its contract. The invariant: the first i events that wait are in the buffer. Assumes nothing.
use Rattle.calls.proofs.ReceiverCalls.{taking-start, taking_step, taking-none, taking-full}
use native.Mathlib.Omega.{arith}
use mathlib.Core.Path.{◌≡◌, sym, ◌∙◌}
use lib.ListN.{length}
use Rattle.calls.proofs.receive.take_events.Goals as goal

pub loop-i-init : goal.loop-i-init
loop-i-init c = taking-start _ _

pub returns-then-events_in-eq0 : goal.returns-then-events_in-eq0
returns-then-events_in-eq0 c =
    let l = c.loop-i in
    let e = c.events-t in
    taking-none _ _ _ _ _ l.invariant e.result.event _ e.ensures (omega (arith, c.loop-i-test.true)) (sym c.events_in.ensures ∙ c.if-events_in-eq0.true)

pub loop-i-preserved : goal.loop-i-preserved
loop-i-preserved c =
    let l = c.loop-i in
    let e = c.events-t in
    taking_step _ _ _ _ _ l.invariant e.result.event _ e.ensures (omega (arith, c.loop-i-test.true)) (λ z. c.if-events_in-eq0.false (c.events_in.ensures ∙ z)) _ c.event_byte.ensures

pub returns : goal.returns
returns c =
    let l = c.loop-i in
    let e : length l.buf ≡ l.i = omega (arith, c.loop-i-test.false, l.auto.i-end) in
    rw e (taking-full _ _ _ _ _ (omega (arith, e, l.auto.buf)) l.invariant)
