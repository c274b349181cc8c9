-- `frames::all_bits` meets its contract. The invariant: the first i bits are pushed, and their answers stand in front. Assumes nothing.
use native.Mathlib.Omega.{arith}
use Rattle.calls.proofs.FrameCalls.{bits-state, bits-step, bits-end}
use Prim.Native.Nat.{◌<◌}
use lib.ListN.{length}
use Rattle.framing.specs.Frame.{after}
use Rattle.calls.specs.Frames.{push_replies}
use mathlib.Core.Path.{refl}
use Rattle.calls.proofs.frames.all_bits.Goals as goal

pub loop-i-init : goal.loop-i-init
unfolding after push_replies
loop-i-init c = (refl, refl)

pub loop-i-preserved : goal.loop-i-preserved
loop-i-preserved c =
    let l = c.loop-i in
    let a = c.args in
    let o = c.one_bit-d.ensures in
    let some : l.i < length a.bits.now = omega (arith, c.loop-i-test.true, c.min-count.ensures) in
    (bits-state a.start a.bits.now l.i some _ _ l.invariant.0 o.value, bits-step a.start a.bits.now l.i some _ _ _ _ l.invariant.0 l.invariant.1 o.answers_after)

pub returns : goal.returns
returns c =
    let l = c.loop-i in
    let n = c.min-count in
    bits-end l.i n.result c.args.start _ _ _ n.ensures (omega (arith, l.auto.i-end, c.loop-i-test.false)) l.invariant.1
