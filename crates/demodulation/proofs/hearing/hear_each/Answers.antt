-- `hear_each` meets its contract. The invariant: from where the loop stands the rest is heard as the whole is from the start. Assumes nothing.
use Rattle.demodulation.proofs.SummingSteps.{summed-step, summed-next, waved-next}
use Rattle.demodulation.proofs.Turns.{going_start, room, going_on, going_end}
use Rattle.demodulation.proofs.hearing.hear_each.Goals as goal

pub loop-s-init : goal.loop-s-init
loop-s-init c =
    let p = c.requires in
    (going_start _ _ _ p.places p.few, c.sums_before-sums.ensures, c.waves-w.ensures)

pub step-t-requires : goal.step-t-requires
step-t-requires c =
    let l = c.loop-s in
    (l.invariant.1, l.invariant.2)

pub next_sums-sums-requires : goal.next_sums-sums-requires
next_sums-sums-requires c =
    let l = c.loop-s in
    (l.core.place, summed-step _ _ _ c.step-t.ensures _ l.invariant.1)

pub put_step-count-requires : goal.put_step-count-requires
put_step-count-requires c =
    let l = c.loop-s in
    (room _ _ _ _ _ _ _ l.invariant.0 _ c.loop-s-test.true c.step-t.ensures, l.invariant.0.places)

pub loop-s-preserved : goal.loop-s-preserved
loop-s-preserved c =
    let l = c.loop-s in
    let e = c.step-t.ensures in (
      going_on _ _ _ _ _ _ _ l.invariant.0 _ c.loop-s-test.true e _ _ c.put_step-count.ensures,
      summed-next _ _ _ e _ _ c.next_sums-sums.ensures,
      waved-next _ _ _ e _ c.waves_ahead-ahead.ensures,
    )

pub returns : goal.returns
returns c =
    let l = c.loop-s in
    let g = going_end _ _ _ _ _ _ _ l.invariant.0 c.loop-s-test.false in
    record {
      after = g.after;
      heard = g.heard;
      count = g.count;
      few = g.few;
      rest = g.rest;
      places = g.places;
    }
