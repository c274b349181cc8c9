-- `Resampler::run` meets its contract: equal rates copy; else the filter is the definition's, and what it makes stands at the front of the
-- output. Assumes nothing.
use mathlib.Core.Path.{sym, ◌∙◌}
use Rattle.resampling.specs.ResampleRep.{state_of}
use Rattle.resampling.specs.FlowRep.{flow_of}
use Rattle.resampling.proofs.Answers.{copied-into, ran-into, filter-is}
use Rattle.resampling.proofs.resample.Resampler.run.Goals as goal

pub returns-then-self : goal.returns-then-self
unfolding state_of
returns-then-self c =
    record { output_after = copied-into _ _ _ _ _ (sym c.args.self.equal ∙ c.if-self.true) c.copy-count.ensures }

pub returns : goal.returns
unfolding state_of flow_of
returns c =
    let r = c.args.self in
    record { output_after = ran-into (state_of r) _ _ _ _ (filter-is r) (sym r.equal ∙ c.if-self.false) c.feed-d.ensures.all_fed }
