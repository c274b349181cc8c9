-- The match told what `exact_sum` answered. Assumes nothing.
use Rattle.refusal.specs.Refusals.{reply_in}
use mathlib.Core.Path.{ap}
use Rattle.ffi.specs.Durations.{duration_numbers, sum_run}
use Rattle.ffi.proofs.Telling.{told-given, told-refused}
use Rattle.ffi.proofs.durations.morkhetta_exact_sum.Goals as goal

pub returns-in-Ok : goal.returns-in-Ok
unfolding sum_run
returns-in-Ok c =
    told-given duration_numbers _ (reply_in c.exact_sum-answer.result) _ c.exact_sum-answer.ensures.reply _ (ap reply_in c.in-Ok.is) _ c.lay.ensures

pub returns-in-Err : goal.returns-in-Err
unfolding sum_run
returns-in-Err c =
    told-refused duration_numbers _ (reply_in c.exact_sum-answer.result) _ c.exact_sum-answer.ensures.reply _ (ap reply_in c.in-Err.is) _ c.from.ensures
