-- `Resampler::window_numbers` meets its contract: the step is the rates' quotient. Assumes nothing.
use Rattle.resampling.specs.ResampleRep.{state_of}
use Rattle.resampling.specs.FlowRep.{flow_of}
use Rattle.resampling.proofs.resample.Resampler.window_numbers.Goals as goal

pub returns : goal.returns
unfolding state_of flow_of
returns c = rw c.args.self.quotient
