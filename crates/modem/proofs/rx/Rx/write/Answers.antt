-- `Rx::write` meets its contract: a write that no check refuses is accepted, and any other changes nothing. Assumes nothing.
use Rattle.std.specs.Prelude.{Ok}
use Prim.Native.Nat.{ℕ}
use mathlib.Core.Path.{refl, sym, ap, ◌∙◌}
use Rattle.refusal.specs.Refusals.{reply_in, reply_of}
use Rattle.refusal.proofs.RefusalLaws.{accepted-none}
use Rattle.modem.specs.Write.{refused_by}
use Rattle.modem.specs.RxRep.{receiver_of}
use Rattle.modem.proofs.QueueLaws.{queued_length}
use Rattle.modem.proofs.Receiving.{went-through, stopped}
use Rattle.modem.proofs.rx.Rx.write.Goals as goal

pub accept_all-requires : goal.accept_all-requires
accept_all-requires c =
    accepted-none (Ok tt) _ (sym (ap reply_in c.in-Ok.is) ∙ c.check-answer.ensures) refl

pub returns-in-Err : goal.returns-in-Err
unfolding receiver_of
returns-in-Err c =
    let r = c.args.self in
    let k = c.check-answer in
    let n = queued_length r.out in
    let e = k.ensures ∙ ap (λ (m : ℕ). reply_of (refused_by c.args.samples.now r.listener.accepted m)) (sym n) in
    stopped (receiver_of r) c.args.samples.now c.in-Err.why (sym (ap reply_in c.in-Err.is) ∙ e)

pub returns-in-Ok : goal.returns-in-Ok
unfolding receiver_of
returns-in-Ok c =
    let r = c.args.self in
    let k = c.check-answer in
    let n = queued_length r.out in
    let e = k.ensures ∙ ap (λ (m : ℕ). reply_of (refused_by c.args.samples.now r.listener.accepted m)) (sym n) in
    c.accept_all.ensures ∙ went-through (receiver_of r) c.args.samples.now (sym (ap reply_in c.in-Ok.is) ∙ e)
