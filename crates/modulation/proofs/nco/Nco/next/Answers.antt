-- The value and the phase are what `sine` and `turn` ensure. Assumes nothing.
use Rattle.modulation.specs.Nco.{nco_next}
use Rattle.modulation.proofs.nco.Nco.next.Goals as goal

pub returns : goal.returns
unfolding nco_next
returns c = cc
