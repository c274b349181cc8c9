-- `Resampler::reset` meets its contract: a cleared state is a fresh one. Assumes nothing.
use Rattle.resampling.proofs.Answers.{fresh-is}
use Rattle.resampling.specs.ResampleRep.{state_of}
use Rattle.resampling.specs.FlowRep.{flow_of}
use Rattle.resampling.proofs.resample.Resampler.reset.Goals as goal

pub returns : goal.returns
unfolding state_of flow_of
returns c =
    let r = c.args.self in
    record { result_value = rw c.filled-self.ensures (fresh-is _ _ _ _ r.high r.taps_long r.are) }
