use mathlib.Core.Path.{◌≡◌, ap}
use mathlib.Core.Bool.{false}
use mathlib.Core.List.{◌∷◌, []}
use native.Mathlib.Omega.{arith}
use lib.ListN.{get_or, take, length}
use lib.Seq.{length-take-le}
use Rattle.modulation.proofs.BitRing.{none-joins, more-joins, take_more}
use Prim.Native.Nat.{◌<◌}
use Rattle.framing.specs.Frame.{frame_of}
use Rattle.modulation.specs.Bits.{Joined}
use Rattle.modulation.proofs.bits.push_frame.Goals as goal

pub loop-bit-init : goal.loop-bit-init
loop-bit-init c = none-joins _ _ _ c.requires.0

pub push_one-at-requires : goal.push_one-at-requires
push_one-at-requires c =
    let l = c.loop-bit in
    let few : l.bit-index < 10 = omega (arith, ap length c.frame_byte-frame.ensures) in
    (l.invariant.held, omega (arith, l.invariant.count, length-take-le l.bit-index (frame_of c.args.b) (omega arith)))

pub loop-bit-preserved : goal.loop-bit-preserved
loop-bit-preserved c =
    let l = c.loop-bit in
    let f = c.frame_byte-frame.result in
    let is = c.frame_byte-frame.ensures in
    let few : l.bit-index < length f = omega (arith, ap length is) in
    let joined : Joined c.args.head c.args.bits.now c.args.waiting (take l.bit-index f) l.bits l.at = rw is l.invariant in
    rw (take_more f l.bit-index false few, is) at (more-joins _ _ _ _ _ _ _ (take l.bit-index f) (get_or f l.bit-index false ∷ []) joined c.push_one-at.ensures)

pub returns : goal.returns
returns c =
    let l = c.loop-bit in
    let e : l.bit-index ≡ 10 = omega (arith, ap length c.frame_byte-frame.ensures) in
    rw e at l.invariant
