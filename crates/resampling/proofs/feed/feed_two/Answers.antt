-- `feed::feed_two` meets its contract: the outputs of the first sample leave the history as it is, so what the filter gave for the second is right when it goes in. Assumes nothing.
use mathlib.Core.Path.{◌∙◌}
use Rattle.resampling.proofs.Running.{first-only, both-taken, drained-from, pushed-known}
use Rattle.resampling.specs.Flow.{wants}
use Rattle.resampling.specs.FlowRep.{flow_of}
use Rattle.resampling.proofs.feed.feed_two.Goals as goal

pub returns-then-moving-clause-all_fed : goal.returns-then-moving-clause-all_fed
unfolding wants flow_of
returns-then-moving-clause-all_fed c =
    let p = c.push_ahead-p.ensures in
    let d = c.drain-d.ensures in
    first-only _ _ _ _ _ _ _ (drained-from _ _ _ _ _ _ _ (p.one_pushed c.args.step) (d.all_drained _ _ _)) c.if-moving.true

pub returns-clause-all_fed : goal.returns-clause-all_fed
unfolding wants flow_of
returns-clause-all_fed c =
    let p = c.push_ahead-p.ensures in
    let d = c.drain-d in
    let k = c.push_known-q.ensures in
    let u = c.drain.ensures in
    let e = drained-from _ _ _ _ _ _ _ (p.one_pushed c.args.step) (d.ensures.all_drained _ _ _) in
    let g = k.result_after ∙ pushed-known _ _ _ d.result.moving _ _ _ _ d.ensures.fir_pos_value p.ahead_value in
    both-taken _ _ _ _ _ _ _ e _ c.if-moving.false (drained-from _ _ _ _ _ _ _ g (u.all_drained _ _ _))
