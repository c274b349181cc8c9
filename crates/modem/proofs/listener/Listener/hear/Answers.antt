-- A write that no check refused is taken, and any other changes nothing. Assumes nothing.
use Rattle.std.specs.Prelude.{Ok, Err}
use mathlib.Core.Path.{refl, ap, ◌∙◌}
use Rattle.refusal.specs.Refusals.{reply_of}
use Rattle.modem.proofs.RxCalls.{none-wait}
use Rattle.refusal.proofs.RefusalLaws.{accepted-none}
use Rattle.modem.proofs.Receiving.{passes, not_none}
use Rattle.modem.proofs.listener.Listener.hear.Goals as goal

pub accept-t-requires : goal.accept-t-requires
accept-t-requires c =
    let p = passes _ _ _ (accepted-none (Ok tt) _ c.in-Ok.ensures refl) in
    record { few = p.few; end = p.end; places = c.requires }

pub returns-in-Ok : goal.returns-in-Ok
returns-in-Ok c =
    let e = c.in-Ok.ensures ∙ ap reply_of (none-wait c.args.samples.now c.args.self.accepted) in
    let n = accepted-none (Ok tt) _ e refl in
    let k = c.accept-t.ensures in
    record { answer = e; taken = λ z. k; same = λ h. absurd (h n) }

pub returns-in-Err : goal.returns-in-Err
returns-in-Err c =
    let e = c.in-Err.ensures ∙ ap reply_of (none-wait c.args.samples.now c.args.self.accepted) in
    let n = not_none (Err c.in-Err.why) _ e refl in
    record { answer = e; taken = λ z. absurd (n z); same = λ h. record { state = refl; count = refl; untouched = refl } }
