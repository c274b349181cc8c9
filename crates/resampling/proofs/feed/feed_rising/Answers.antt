-- `feed::feed_rising` meets its contract: the interpolated samples pass the filter together. Assumes nothing.
use mathlib.Core.Path.{◌∙◌}
use Rattle.resampling.proofs.Rising.{filtered-run}
use Rattle.resampling.proofs.feed.feed_rising.Goals as goal

pub returns-clause-all_fed : goal.returns-clause-all_fed
returns-clause-all_fed c =
    let s = c.args in
    let a = c.filter_all-fir_pos.ensures in
    let d = c.interpolate_all-d in
    filtered-run d.result.moving _ d.result.at a ∙ d.ensures.all_interpolated s.n s.taps.now s.hist.now
