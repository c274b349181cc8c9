-- `Resampler::history_numbers` meets its contract: the ring from its newest sample backwards. Assumes nothing.
use Rattle.resampling.proofs.NumberLaws.{ring-place, history-shown}
use Rattle.resampling.proofs.resample.Resampler.history_numbers.Goals as goal

pub newest_first-newest-requires : goal.newest_first-newest-requires
newest_first-newest-requires c = (c.args.self.high, ring-place c.args.self)

pub returns : goal.returns
returns c = history-shown _ _ _ c.newest_first-newest.ensures c.cleared.ensures
