-- `filter::fir_push_two` meets its contract: each of the two is stored as the newest, and its sum is over the history with it. Assumes nothing.
use Rattle.resampling.proofs.Ring.{went-in, went-after}
use Rattle.resampling.proofs.FilterLaws.{one-filtered, more-filtered}
use Rattle.resampling.proofs.filter.fir_push_two.Goals as goal

pub returns : goal.returns
returns c =
    let p = c.requires in
    let f = c.fir_sums-y.ensures in
    let a = one-filtered p (went-in _ _ _ _ _ _ p f.first_value) in
    rw c.ring_next-next.ensures.0 (more-filtered a (one-filtered a.placed (went-after _ _ _ _ _ _ p.within a.placed f.second_value)))
