-- `state::put_resampler` meets its contract. Assumes nothing.
use Rattle.snapshot.proofs.state.put_resampler.Goals as goal

pub returns : goal.returns
returns c = rw (← c.resampler.ensures) c.put_numbers.ensures
