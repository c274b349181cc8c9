-- `feed::feed_pairs` meets its contract. The invariant: what the rest of the input does from where the loop stands is what the whole does from the start. Assumes nothing.
use native.Mathlib.Omega.{arith}
use mathlib.Core.Path.{sym, ◌∙◌}
use Rattle.resampling.proofs.Running.{pair_turn, pair-halt, fed-done}
use Rattle.resampling.specs.Flow.{wants}
use Rattle.resampling.specs.FlowRep.{flow_of}
use borrow.Author.Rules.{rules}
use Rattle.resampling.proofs.feed.feed_pairs.Goals as goal

pub returns-then-moving-clause-all_fed : goal.returns-then-moving-clause-all_fed
unfolding wants flow_of
returns-then-moving-clause-all_fed c =
    let l = c.loop-i in
    let f = c.feed_two-d.ensures in
    sym (pair-halt _ _ _ _ _ _ _ c.loop-i-test.true f.all_fed c.if-moving.true) ∙ l.invariant.0

pub loop-i-preserved : goal.loop-i-preserved
unfolding wants flow_of
loop-i-preserved c =
    let l = c.loop-i in
    let f = c.feed_two-d.ensures in
    let t = c.loop-i-test.true in
    (sym (pair_turn _ _ _ _ _ _ _ t f.all_fed c.if-moving.false) ∙ l.invariant.0, f.placed, search rules, omega (arith, t))

pub returns-clause-all_fed : goal.returns-clause-all_fed
returns-clause-all_fed c =
    sym (fed-done _ _ _ _ _ _ c.if-i-input.false) ∙ c.loop-i.invariant.0
