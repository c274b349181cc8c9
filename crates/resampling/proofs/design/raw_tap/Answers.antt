-- `design::raw_tap` meets its contract: the code's operations are the definition's. Assumes nothing.
use Rattle.resampling.specs.Design.{raw_tap}
use Rattle.resampling.proofs.design.raw_tap.Goals as goal

pub returns : goal.returns
unfolding raw_tap
returns c = rw (c.blackman_at.ensures, c.sinc_at-s.ensures, c.cutoff_of.ensures, c.requires.0)
