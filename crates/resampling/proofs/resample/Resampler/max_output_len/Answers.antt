-- `Resampler::max_output_len` meets its contract: each arm returns what the definition picks. Assumes nothing.
use borrow.Author.Tests.{lt-ltb, le-ltb}
use Rattle.resampling.specs.ResampleRep.{state_of}
use Rattle.resampling.specs.Resample.{len_of, too_many}
use Rattle.resampling.proofs.resample.Resampler.max_output_len.Goals as goal

pub returns-then-input_len-gt2048 : goal.returns-then-input_len-gt2048
unfolding len_of too_many
returns-then-input_len-gt2048 c = rw (lt-ltb _ _ c.if-input_len-gt2048.true)

pub returns : goal.returns
unfolding len_of too_many state_of
returns c = rw (le-ltb _ _ c.if-input_len-gt2048.false, c.output_len.ensures)
