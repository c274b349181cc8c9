-- `frames::put_frame` meets its contract. The invariant: the first i bits are written. Assumes nothing.
use mathlib.Core.Path.{◌∙◌}
use mathlib.Core.List.{map}
use native.Mathlib.Omega.{arith}
use lib.Seq.{paste-zero}
use Rattle.framing.specs.Frame.{frame_of}
use Rattle.calls.specs.Answers.{bit}
use Rattle.calls.proofs.FrameCalls.{frame_step, frame-end}
use Rattle.calls.proofs.Steps.{byte-bit}
use Rattle.calls.proofs.frames.put_frame.Goals as goal

pub loop-i-init : goal.loop-i-init
loop-i-init c =
    let a = c.args in
    paste-zero a.bits.now a.at (map bit (frame_of a.b))

pub loop-i-preserved : goal.loop-i-preserved
loop-i-preserved c =
    let l = c.loop-i in
    let a = c.args in
    frame_step a.bits.now a.at a.b l.i _ l.bits _ c.frame_byte-frame.ensures c.loop-i-test.true c.requires l.invariant (c.from.ensures ∙ byte-bit _)

pub returns : goal.returns
returns c =
    let l = c.loop-i in
    let a = c.args in
    frame-end a.bits.now a.at a.b l.i l.bits (omega (arith, l.auto.i-end, c.loop-i-test.false)) l.invariant
