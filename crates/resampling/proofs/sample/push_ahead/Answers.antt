-- `sample::push_ahead` meets its contract: the second sum is the filter's over the history with the sample in it and the later one after. Assumes nothing.
use mathlib.Core.Path.{◌∙◌}
use Rattle.resampling.proofs.Running.{pushed-down}
use Rattle.resampling.proofs.Ring.{went-in, history-next}
use Rattle.resampling.proofs.sample.push_ahead.Goals as goal

pub returns-clause-one_pushed : goal.returns-clause-one_pushed
returns-clause-one_pushed c =
    let w = went-in _ _ _ _ c.args.x _ c.requires c.fir_sums-y.ensures.first_value in
    λ step. c.slide-moving.ensures.by_index _ _ ∙ pushed-down _ _ _ _ step _ _ _ _ w c.ring_next-next.ensures.0

pub returns-clause-ahead_value : goal.returns-clause-ahead_value
returns-clause-ahead_value c =
    rw (c.slide-moving.ensures.fir_pos_value, c.ring_next-next.ensures.0, history-next _ _ _ c.requires.within) c.fir_sums-y.ensures.second_value
