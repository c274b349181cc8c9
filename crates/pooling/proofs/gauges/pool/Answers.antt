-- What is kept of three gauges is kept of each by itself. Assumes nothing.
use mathlib.Core.Path.{◌∙◌}
use native.Mathlib.Omega.{arith}
use Rattle.tide.specs.JudgeRep.{shown_of}
use Rattle.pooling.proofs.Codes.{newest-three, kept-three}
use Rattle.pooling.proofs.gauges.pool.Goals as goal

pub returns : goal.returns
returns c =
    let s = c.args in
    let e = newest-three (shown_of s.a) (shown_of s.b) (shown_of s.c) in
    c.of_kept.ensures
    ∙ kept-three _ _ _ (shown_of c.keep.result) (shown_of c.keep-2.result) (shown_of c.keep-3.result) c.max-newest_minute.result
    (omega (arith, c.max-newest_minute.ensures, c.max.ensures, c.water_of-3.ensures, c.water_of-2.ensures, c.water_of.ensures))
    c.keep.ensures c.keep-2.ensures c.keep-3.ensures
