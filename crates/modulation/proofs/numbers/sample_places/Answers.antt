-- `numbers::sample_places` meets its contract. The invariant: the first i samples are laid out. Assumes nothing.
use Prim.Native.Nat.{◌-◌}
use native.Mathlib.Omega.{arith}
use Rattle.modulation.proofs.NumberLaws.{samples-step}
use Prim.Native.Nat.{◌<◌}
use Rattle.modulation.proofs.numbers.sample_places.Goals as goal

pub loop-i-preserved : goal.loop-i-preserved
loop-i-preserved c =
    let l = c.loop-i in
    let s = c.args in
    let p = c.requires in
    let t : l.i < s.upto - s.from = omega arith in
    samples-step s.samples.now s.from s.upto p.ordered (omega (arith, p.room, p.places)) l.i _ _ _ t p.room l.invariant c.widen.ensures
