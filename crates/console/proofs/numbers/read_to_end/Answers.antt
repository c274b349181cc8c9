-- What each turn reads stands behind what was read before. Assumes nothing.
use mathlib.Core.Path.{refl}
use Rattle.console.proofs.Lines.{some_more, failed}
use Rattle.console.proofs.numbers.read_to_end.Goals as goal

pub returns-in_err-next : goal.returns-in_err-next
returns-in_err-next g c = failed _ _ _ _ _ c.from_residual.ensures.0 (some_more _ _ _ _ _ _ c.loop.invariant c.in_err-next.ensures)

pub returns-in_default : goal.returns-in_default
returns-in_default g c =
    record { numbers = c.loop.r; some = some_more _ _ _ _ _ _ c.loop.invariant (rw c.in_default.is at c.in_ok-next.ensures); answer = refl }

pub loop-preserved : goal.loop-preserved
loop-preserved g c = some_more _ _ _ _ _ _ c.loop.invariant (rw c.in-Some.is at c.in_ok-next.ensures)
