-- The match told what `exact` answered. Assumes nothing.
use Rattle.refusal.specs.Refusals.{reply_in}
use mathlib.Core.Path.{ap}
use Rattle.ffi.specs.Durations.{measure_numbers, exact_run}
use Rattle.ffi.proofs.Telling.{told-given, told-refused}
use Rattle.ffi.proofs.durations.morkhetta_exact.Goals as goal

pub returns-in-Ok : goal.returns-in-Ok
unfolding exact_run
returns-in-Ok c =
    told-given measure_numbers _ (reply_in c.exact-answer.result) _ c.exact-answer.ensures.reply _ (ap reply_in c.in-Ok.is) _ c.lay.ensures

pub returns-in-Err : goal.returns-in-Err
unfolding exact_run
returns-in-Err c =
    told-refused measure_numbers _ (reply_in c.exact-answer.result) _ c.exact-answer.ensures.reply _ (ap reply_in c.in-Err.is) _ c.from.ensures
