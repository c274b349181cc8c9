-- `modulate::pass_within` meets its contract: what a pass makes is at most 16 samples more than the rest has places for. Assumes nothing.
use native.Mathlib.Omega.{arith}
use lib.ListN.{length}
use Rattle.modulation.proofs.Counts.{surplus}
use Rattle.modulation.proofs.modulate.pass_within.Goals as goal

pub whole_as_front-pass_in-2 : goal.whole_as_front-pass_in-2
whole_as_front-pass_in-2 g c =
    let up = c.requires.wave_held.1 in
    (omega (arith, rw c.need_for-k.ensures at c.room_for-room.ensures, c.requires.room.0, surplus c.args.s.rate (length c.args.rest.now) up.low up.high), omega (arith, c.requires.room.1))
