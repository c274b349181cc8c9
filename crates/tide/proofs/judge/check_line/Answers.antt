-- A line with a fault in its frame has that number; one with none that of what its frame says. Assumes nothing.
use mathlib.Core.Path.{sym}
use Rattle.std.proofs.lemmas.Result.{err_from_is_err_and}
use Rattle.tide.proofs.Checks.{passes-digits, by_frame, by_said}
use Rattle.tide.proofs.judge.check_line.Goals as goal

pub returns-in_err-check_frame : goal.returns-in_err-check_frame
returns-in_err-check_frame c =
    let p = err_from_is_err_and c.from_residual.result c.from_residual.ensures.1 in
    rw (p.1, p.2) (by_frame _ _ _ _ c.in_err-check_frame.ensures)

pub new-requires : goal.new-requires
new-requires c = passes-digits _ c.args.more (sym c.in_ok-check_frame.ensures)

pub returns : goal.returns
returns c = by_said _ _ _ _ c.in_ok-check_frame.ensures (rw c.new.ensures at c.check_said.ensures)
