-- `Resampler::tap_numbers` meets its contract: the first of the array are the taps. Assumes nothing.
use Rattle.resampling.proofs.NumberLaws.{taps-shown}
use Rattle.resampling.proofs.resample.Resampler.tap_numbers.Goals as goal

pub returns : goal.returns
returns c = taps-shown _ _ c.cleared.ensures
