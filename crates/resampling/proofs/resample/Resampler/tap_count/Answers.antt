-- `Resampler::tap_count` meets its contract: a state has as many as the design. Assumes nothing.
use mathlib.Core.Path.{sym}
use Rattle.resampling.specs.ResampleRep.{state_of}
use Rattle.resampling.proofs.NumberLaws.{taps-length}
use Rattle.resampling.proofs.resample.Resampler.tap_count.Goals as goal

pub returns : goal.returns
unfolding state_of
returns c = sym (taps-length c.args.self)
