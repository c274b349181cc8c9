-- The match told what `pool` answered. Assumes nothing.
use Rattle.ffi.proofs.GaugeLaws.{gauge-row, gauge-back, pool-of, pool-given, pool-refused}
use mathlib.Core.Path.{◌≡◌, ◌∙◌}
use mir.Syntax.{w16, w64}
use mir.Val.{to_z, of_z}
use mir.ValLaws.{to_z-of_z}
use borrow.Author.Rules.{rules}
use Rattle.tide.specs.JudgeRep.{read_of}
use Rattle.ffi.proofs.gauges.morkhetta_pool.Goals as goal

pub returns-in-Ok : goal.returns-in-Ok
returns-in-Ok c =
    let r = c.in-Ok.reading in
    let level : to_z w16 (of_z w16 r.level) ≡ r.level = search rules in
    let w = c.from in
    let l = c.from-in-Ok in
    let row = rw (to_z-of_z w64 w.result (record { sfits = w.type_inv }), w.ensures, to_z-of_z w64 l.result (record { sfits = l.type_inv }), l.ensures, level) at c.lay.ensures ∙ gauge-row (read_of r) _ in
    let is = pool-of c.pool-answer.result c.pool-answer.ensures (c.gauge-a.ensures ∙ gauge-back _ _ c.ranges.level1)
    (c.gauge-b.ensures ∙ gauge-back _ _ c.ranges.level2) (c.gauge-c.ensures ∙ gauge-back _ _ c.ranges.level3) in
    pool-given _ _ _ _ c.pool-answer.result is _ c.in-Ok.is _ row

pub returns-in-Err : goal.returns-in-Err
returns-in-Err c =
    let is = pool-of c.pool-answer.result c.pool-answer.ensures (c.gauge-a.ensures ∙ gauge-back _ _ c.ranges.level1)
    (c.gauge-b.ensures ∙ gauge-back _ _ c.ranges.level2) (c.gauge-c.ensures ∙ gauge-back _ _ c.ranges.level3) in
    pool-refused _ _ _ _ c.pool-answer.result is _ c.in-Err.is _ c.from-in-Err.ensures
