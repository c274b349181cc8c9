-- `Resampler::fresh_at` meets its contract: an array of zeros is a history of zeros, and the taps are the design's. Assumes nothing.
use Rattle.resampling.proofs.Answers.{fresh-is, taps-are}
use Rattle.resampling.specs.ResampleRep.{state_of}
use Rattle.resampling.specs.FlowRep.{flow_of}
use borrow.Author.Rules.{rules}
use Rattle.resampling.proofs.resample.Resampler.fresh_at.Goals as goal

pub invariant_of-result-clause-are : goal.invariant_of-result-clause-are
invariant_of-result-clause-are c = taps-are _ _ c.max.ensures c.taps_for-designed.ensures

pub returns : goal.returns
unfolding state_of flow_of
returns c =
    let t = c.taps_for-designed in
    rw c.filled-fir_hist.ensures (fresh-is _ _ _ _ t.ensures.high (search rules) (taps-are _ _ c.max.ensures t.ensures))
