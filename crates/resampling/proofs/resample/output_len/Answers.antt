-- `resample::output_len` meets its contract: the product is small, and the quotient is the definition's. Assumes nothing.
use Rattle.resampling.specs.Resample.{max_output_len}
use Rattle.resampling.proofs.resample.output_len.Goals as goal

pub returns-then-identity : goal.returns-then-identity
unfolding max_output_len
returns-then-identity c = rw (← c.requires.2, c.if-identity.true)

pub returns : goal.returns
unfolding max_output_len
returns c = rw (← c.requires.2, c.if-identity.false, c.nearest.ensures)
