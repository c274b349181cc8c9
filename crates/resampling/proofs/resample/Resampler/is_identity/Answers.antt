-- `Resampler::is_identity` meets its contract: a state knows it. Assumes nothing.
use Rattle.resampling.specs.ResampleRep.{state_of}
use Rattle.resampling.proofs.resample.Resampler.is_identity.Goals as goal

pub returns : goal.returns
unfolding state_of
returns c = c.args.self.equal
