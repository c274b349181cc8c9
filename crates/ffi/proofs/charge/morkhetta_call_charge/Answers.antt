-- The match told what `call_charge` answered. Assumes nothing.
use Rattle.refusal.specs.Refusals.{reply_in}
use mathlib.Core.Path.{refl, sym, ap, ◌∙◌}
use Rattle.ffi.specs.Charge.{call_after}
use Rattle.ffi.proofs.Charging.{said, call-row}
use Rattle.ffi.proofs.charge.morkhetta_call_charge.Goals as goal

pub returns-in-Ok : goal.returns-in-Ok
returns-in-Ok c =
    let out = c.args.charge.now in let all = said (λ x. call_after x out) (sym (ap reply_in c.in-Ok.is) ∙ c.call_charge-answer.ensures) refl (c.lay.ensures ∙ call-row _ _) in record { value = all.0; charge_after = all.1 }

pub returns-in-Err : goal.returns-in-Err
returns-in-Err c =
    let out = c.args.charge.now in let all = said (λ x. call_after x out) (sym (ap reply_in c.in-Err.is) ∙ c.call_charge-answer.ensures) c.from.ensures refl in record { value = all.0; charge_after = all.1 }
