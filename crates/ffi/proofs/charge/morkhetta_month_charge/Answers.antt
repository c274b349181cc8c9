-- The match told what `month_charge` answered. Assumes nothing.
use Rattle.refusal.specs.Refusals.{reply_in}
use mathlib.Core.Path.{refl, sym, ap, ◌∙◌}
use Rattle.ffi.specs.Charge.{month_after}
use Rattle.ffi.proofs.Charging.{said, fits-shown}
use Rattle.ffi.proofs.charge.morkhetta_month_charge.Goals as goal

pub lay_month-requires : goal.lay_month-requires
lay_month-requires c =
    let k = c.month_charge-answer in
    fits-shown _ _ c.in-Ok.month (sym k.ensures ∙ ap reply_in c.in-Ok.is)

pub returns-in-Ok : goal.returns-in-Ok
returns-in-Ok c =
    let out = c.args.charge.now in let all = said (λ x. month_after x out) (sym (ap reply_in c.in-Ok.is) ∙ c.month_charge-answer.ensures) refl c.lay_month.ensures in record { value = all.0; charge_after = all.1 }

pub returns-in-Err : goal.returns-in-Err
returns-in-Err c =
    let out = c.args.charge.now in let all = said (λ x. month_after x out) (sym (ap reply_in c.in-Err.is) ∙ c.month_charge-answer.ensures) c.from.ensures refl in record { value = all.0; charge_after = all.1 }
