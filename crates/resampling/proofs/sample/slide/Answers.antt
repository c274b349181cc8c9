-- `sample::slide` meets its contract: the window's three newest and y. Assumes nothing.
use mathlib.Core.Path.{refl}
use Rattle.resampling.specs.FlowRep.{flow_of}
use Rattle.resampling.proofs.sample.slide.Goals as goal

pub returns-clause-by_index : goal.returns-clause-by_index
unfolding flow_of
returns-clause-by_index c = λ n ring. refl
