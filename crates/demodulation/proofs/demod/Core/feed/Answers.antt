-- A step's place is one of the rings' again. Assumes nothing.
use Rattle.demodulation.proofs.DemodLaws.{next_place}
use Rattle.demodulation.proofs.demod.Core.feed.Goals as goal

pub invariant_of-self-clause-place : goal.invariant_of-self-clause-place
invariant_of-self-clause-place c = rw c.advance-next.ensures (next_place c.args.self.corr)
