-- Where none is beyond its turn, each value is its steps'; else it is what `sine` ensures. Assumes nothing.
use Rattle.std.proofs.Common.{refl}
use Rattle.numeric.specs.Sines.{wrapped}
use Rattle.numeric.proofs.SinesLaws.{inside, within-is}
use Rattle.numeric.proofs.sines.sines.Goals as goal

pub returns-else-any_beyond : goal.returns-else-any_beyond
unfolding wrapped
returns-else-any_beyond c =
    let i = inside c.any_beyond.ensures c.if-any_beyond.false in
    let s = c.sines_within.ensures in
    record {
      first = within-is _ _ _ _ c.within-a.ensures refl i.first s.first;
      second = within-is _ _ _ _ c.within-b.ensures refl i.second s.second;
      third = within-is _ _ _ _ c.within-c.ensures refl i.third s.third;
      fourth = within-is _ _ _ _ c.within-d.ensures refl i.fourth s.fourth;
    }
