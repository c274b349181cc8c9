-- `Resampler::process` meets its contract: each return is one of the definition's cases. Assumes nothing.
use Rattle.resampling.specs.ResampleRep.{state_of}
use Rattle.resampling.proofs.Answers.{too_long, wild, no_room, went}
use Rattle.resampling.proofs.resample.Resampler.process.Goals as goal

pub returns-then-count-gt2048 : goal.returns-then-count-gt2048
returns-then-count-gt2048 c = record { output_after = too_long _ _ _ c.if-count-gt2048.true }

pub returns-then-not-all_in_range : goal.returns-then-not-all_in_range
returns-then-not-all_in_range c =
    let t = c.all_in_range in
    record { output_after = wild _ _ _ c.if-count-gt2048.false t.result t.ensures c.if-not-all_in_range.true-raw }

pub returns-then-output-need : goal.returns-then-output-need
unfolding state_of
returns-then-output-need c =
    let t = c.all_in_range in
    record { output_after = no_room _ _ _ c.if-count-gt2048.false t.result t.ensures c.if-not-all_in_range.false-raw _ c.output_len-need.ensures c.if-output-need.true }

pub returns : goal.returns
unfolding state_of
returns c =
    let t = c.all_in_range in
    record { output_after = went _ _ _ c.if-count-gt2048.false t.result t.ensures c.if-not-all_in_range.false-raw _ c.output_len-need.ensures _ c.if-output-need.false c.run-p.ensures.output_after }
