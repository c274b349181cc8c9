-- `state::show` meets its contract: the script, and then the state. Assumes nothing.
use Rattle.snapshot.specs.ReceiverState.{shown}
use mathlib.Core.Path.{ap}
use Rattle.snapshot.proofs.state.show.Goals as goal

pub returns : goal.returns
returns c = rw (← c.all_steps-rx.ensures) (ap (shown 1) c.put_state.ensures)
