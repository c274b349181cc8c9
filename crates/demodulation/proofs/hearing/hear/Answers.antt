-- Samples that all have room are all of the first 1,026. Assumes nothing.
use mathlib.Core.Path.{sym}
use native.Mathlib.Omega.{arith}
use lib.Seq.{take_all, length-take-le}
use Rattle.happenings.specs.Codes.{most_steps}
use Rattle.demodulation.proofs.hearing.hear.Goals as goal

pub returns-then-samples-le1026 : goal.returns-then-samples-le1026
returns-then-samples-le1026 c = rw (take_all most_steps _ c.if-samples-le1026.true) c.hear_each.ensures

pub slice_bounds-hear_each-end : goal.slice_bounds-hear_each-end
slice_bounds-hear_each-end c = sym (length-take-le most_steps c.args.samples.now (omega (arith, c.if-samples-le1026.false)))

pub hear_each-requires-2 : goal.hear_each-requires-2
hear_each-requires-2 c =
    record { places = c.requires; few = omega (arith, length-take-le most_steps c.args.samples.now (omega (arith, c.if-samples-le1026.false))) }
