-- `frames::frame_bytes` meets its contract. The invariant: the frames of the first i bytes stand in front. Assumes nothing.
use native.Mathlib.Omega.{arith}
use Rattle.calls.proofs.FrameCalls.{frames-step, frames-end}
use Rattle.framing.specs.Framing.{frames_of}
use mathlib.Core.Path.{refl}
use Rattle.calls.proofs.frames.frame_bytes.Goals as goal

pub loop-i-init : goal.loop-i-init
unfolding frames_of
loop-i-init c = refl

pub loop-i-preserved : goal.loop-i-preserved
loop-i-preserved c =
    let l = c.loop-i in
    frames-step c.args.bytes.now l.i (omega (arith, c.loop-i-test.true, c.min-frames.ensures)) _ _ _ l.invariant c.put_frame.ensures

pub returns : goal.returns
returns c =
    let l = c.loop-i in
    let n = c.min-frames in
    frames-end l.i n.result _ _ _ n.ensures (omega (arith, l.auto.i-end, c.loop-i-test.false)) l.invariant
