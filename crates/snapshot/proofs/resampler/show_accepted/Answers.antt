-- `resampler::show_accepted` meets its contract, by the answer of `new`. Assumes nothing.
use Rattle.snapshot.proofs.resampler.show_accepted.Goals as goal

pub returns-in-Err : goal.returns-in-Err
returns-in-Err c = rw c.in-Err.is

pub returns-in-Ok : goal.returns-in-Ok
returns-in-Ok c = rw c.in-Ok.is c.show_numbers.ensures
