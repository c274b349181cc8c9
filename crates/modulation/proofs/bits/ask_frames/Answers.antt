-- `bits::ask_frames` meets its contract: the test, and the frames behind the bits that wait. Assumes nothing.
use Rattle.modulation.specs.Requests.{write}
use Rattle.modulation.proofs.QueueingLaws.{asks_none, asks-all}
use Rattle.modulation.proofs.bits.ask_frames.Goals as goal

pub returns-then-frames_refused : goal.returns-then-frames_refused
returns-then-frames_refused c =
    asks_none _ _ _ (write c.args.«data».now) _ c.frames_refused.ensures c.requires c.if-frames_refused.true

pub returns : goal.returns
returns c =
    asks-all _ _ _ (write c.args.«data».now) _ c.frames_refused.ensures c.if-frames_refused.false _ _ c.push_frames-framed.ensures
