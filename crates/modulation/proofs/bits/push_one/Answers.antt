use Rattle.modulation.proofs.BitRing.{one-joins}
use Rattle.modulation.proofs.bits.push_one.Goals as goal

pub returns : goal.returns
returns c = one-joins _ _ _ _ _ c.requires.0 c.requires.1 c.place_behind-p.ensures.0
