-- The invariant: the samples from place i on are in range exactly where all are. Assumes nothing.
use mathlib.Core.Path.{sym, ◌∙◌}
use borrow.Author.Rules.{rules}
use Rattle.numeric.proofs.RangeLaws.{range-fails, range-passes, range-ends}
use Rattle.resampling.proofs.range.all_in_range.Goals as goal

pub returns-then-not-wide_in_range : goal.returns-then-not-wide_in_range
returns-then-not-wide_in_range c =
    let l = c.loop-x in
    sym (range-fails c.wide_in_range.result _ l.x-index _ (search rules) c.wide_in_range.ensures c.if-not-wide_in_range.true-raw) ∙ l.invariant

pub loop-x-preserved : goal.loop-x-preserved
loop-x-preserved c =
    let l = c.loop-x in
    sym (range-passes c.wide_in_range.result _ l.x-index _ (search rules) c.wide_in_range.ensures c.if-not-wide_in_range.false-raw) ∙ l.invariant

pub returns : goal.returns
returns c =
    let l = c.loop-x in
    sym (range-ends c.args.samples.now l.x-index (search rules)) ∙ l.invariant
