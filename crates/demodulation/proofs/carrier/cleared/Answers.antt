-- The loop's invariant: the first i filters are done, and the others are as they were. Assumes nothing.
use native.Mathlib.Omega.{arith}
use lib.ListN.{length-set}
use Rattle.numeric.proofs.Loops.{map-turn, rest-turn, rest-first}
use Rattle.demodulation.specs.Goertzel.{goertzel_reset}
use Rattle.demodulation.proofs.carrier.cleared.Goals as goal

pub loop-i-preserved : goal.loop-i-preserved
loop-i-preserved g c =
    let l = c.loop-i in
    let s = l.invariant in
    let t = c.loop-i-test.true in
    rw c.reset.ensures (
      simp length-set s.0,
      map-turn goertzel_reset l.gs c.args.gs l.i _ (omega (arith, t, s.0, c.well_formed)) (omega (arith, t, c.well_formed)) s.1 (rest-first l.gs c.args.gs l.i _ s.2),
      rest-turn l.gs c.args.gs l.i _ s.2,
    )
