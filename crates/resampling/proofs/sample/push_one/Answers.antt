-- `sample::push_one` meets its contract: what goes into the window is what the filter gave. Assumes nothing.
use mathlib.Core.Path.{◌∙◌}
use Rattle.resampling.proofs.Running.{pushed-down}
use Rattle.resampling.proofs.sample.push_one.Goals as goal

pub returns-clause-one_pushed : goal.returns-clause-one_pushed
returns-clause-one_pushed c =
    let f = c.fir_push-y.ensures in
    let r = c.ring_next.ensures in
    λ step. c.slide.ensures.by_index _ _ ∙ pushed-down _ _ _ _ step _ _ _ _ f r.0
