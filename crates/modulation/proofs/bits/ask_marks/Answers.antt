-- `bits::ask_marks` meets its contract: the test, and the marks behind the bits that wait. Assumes nothing.
use Rattle.modulation.specs.Requests.{idle_mark}
use Rattle.modulation.proofs.QueueingLaws.{asks_none, asks-all}
use Rattle.modulation.proofs.bits.ask_marks.Goals as goal

pub returns-then-bits_refused : goal.returns-then-bits_refused
returns-then-bits_refused c =
    asks_none _ _ _ (idle_mark c.args.n) _ c.bits_refused.ensures c.requires c.if-bits_refused.true

pub returns : goal.returns
returns c =
    asks-all _ _ _ (idle_mark c.args.n) _ c.bits_refused.ensures c.if-bits_refused.false _ _ c.push_marks-idle.ensures
