-- `design::sinc_at` meets its contract: each arm returns what the definition picks. Assumes nothing.
use Rattle.resampling.specs.Design.{sinc}
use Rattle.resampling.proofs.design.sinc_at.Goals as goal

pub returns-then-absolute : goal.returns-then-absolute
unfolding sinc
returns-then-absolute c = rw (← c.absolute.ensures, c.if-absolute.true)

pub returns-else-absolute : goal.returns-else-absolute
unfolding sinc
returns-else-absolute c = rw (← c.absolute.ensures, c.if-absolute.false, c.sine.ensures)
