-- `numbers::bit_places` meets its contract. The invariant: the first i bits are laid out, and the others stand in the ring from `at` on. Assumes nothing.
use mathlib.Core.Path.{◌≡◌, ◌∙◌, sym}
use native.Mathlib.Omega.{arith}
use Rattle.modulation.specs.Bits.{most_bits}
use Rattle.modulation.proofs.NumberLaws.{filled-end, bits-long, bits-rest, bits-step}
use Prim.Native.Nat.{◌<◌}
use Rattle.modulation.proofs.numbers.bit_places.Goals as goal

pub loop-i-preserved : goal.loop-i-preserved
loop-i-preserved c =
    let l = c.loop-i in
    let s = c.args in
    let t : l.i < s.waiting = omega arith in
    let r = s.bits.now in (
      c.place_after-at.ensures.1,
      bits-rest r s.head s.waiting l.at l.i t l.invariant.1 _ c.place_after-at.ensures.0,
      bits-step r s.head s.waiting l.at l.i t l.invariant.1 _ _ c.requires.room l.invariant.2 c.mark_number.ensures,
    )

pub returns : goal.returns
returns c =
    let l = c.loop-i in
    let s = c.args in
    let e : l.i ≡ s.waiting = omega arith in
    filled-end most_bits l.i _ _ (e ∙ sym (bits-long s.bits.now s.head s.waiting)) l.invariant.2
