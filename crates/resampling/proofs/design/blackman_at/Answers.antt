-- `design::blackman_at` meets its contract: the code's operations are the definition's. Assumes nothing.
use Rattle.resampling.specs.Design.{blackman}
use Rattle.resampling.proofs.design.blackman_at.Goals as goal

pub returns : goal.returns
unfolding blackman
returns c = rw (c.cosine-2.ensures, c.cosine.ensures)
