use native.Mathlib.Omega.{arith}
use lib.ListN.{get_or, take}
use lib.Seq.{length-take-le}
use Rattle.framing.specs.Frame.{frame_of}
use Rattle.framing.specs.Framing.{frames_of}
use Rattle.framing.proofs.FramingLaws.{frames-length}
use Rattle.modulation.proofs.BitRing.{none-joins, more-joins, frames-none, frames-more}
use Rattle.modulation.proofs.bits.push_frames.Goals as goal

pub loop-b-init : goal.loop-b-init
loop-b-init c = rw frames-none (none-joins _ _ _ c.requires.0)

pub push_frame-at-requires : goal.push_frame-at-requires
push_frame-at-requires c =
    let l = c.loop-b in
    let d = c.args.«data».now in
    let few = frames-length (take l.b-index d) in
    let long = length-take-le l.b-index d (omega arith) in
    (l.invariant.held, omega (arith, l.invariant.count, few, long))

pub loop-b-preserved : goal.loop-b-preserved
loop-b-preserved c =
    let l = c.loop-b in
    let d = c.args.«data».now in
    rw (frames-more d l.b-index 0 (omega arith)) at (more-joins _ _ _ _ _ _ _ (frames_of (take l.b-index d)) (frame_of (get_or d l.b-index 0)) l.invariant c.push_frame-at.ensures)
