-- `design::cutoff_of` meets its contract: each arm returns what the definition picks. Assumes nothing.
use Rattle.resampling.specs.Design.{cutoff_of}
use Rattle.resampling.proofs.design.cutoff_of.Goals as goal

pub returns-then-fs : goal.returns-then-fs
unfolding cutoff_of
returns-then-fs c = rw c.if-fs.true

pub returns-else-fs : goal.returns-else-fs
unfolding cutoff_of
returns-else-fs c = rw c.if-fs.false
