-- Each part that is lent is as long as its end, which the requires keeps within the array. Assumes nothing.
use lib.Seq.{length-take-le}
use mathlib.Core.Path.{sym}
use native.Mathlib.Omega.{arith}
use Rattle.examples.proofs.resample.process_zeros.Goals as goal

pub slice_bounds-process-end : goal.slice_bounds-process-end
slice_bounds-process-end c = sym (length-take-le _ c.all-input.result (omega (arith, c.all-input.ensures)))

pub slice_bounds-process-end-2 : goal.slice_bounds-process-end-2
slice_bounds-process-end-2 c = sym (length-take-le _ c.all-before.result (omega (arith, c.all-before.ensures)))
