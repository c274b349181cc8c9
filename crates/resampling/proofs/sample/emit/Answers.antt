-- `sample::emit` meets its contract: the value between the window's samples, and the place moved on. Assumes nothing.
use Rattle.resampling.specs.FlowRep.{flow_of}
use Rattle.resampling.specs.Flow.{between, emitted}
use Rattle.resampling.proofs.sample.emit.Goals as goal

pub returns-clause-one_emitted : goal.returns-clause-one_emitted
unfolding flow_of between emitted
returns-clause-one_emitted c = λ n taps ring. rw c.hermite-y.ensures
