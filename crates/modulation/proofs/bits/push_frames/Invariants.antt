use lib.ListN.{take}
use Rattle.framing.specs.Framing.{frames_of}
use Rattle.modulation.specs.Bits.{Joined}
use Rattle.modulation.proofs.bits.push_frames.Given as goal

abbrev pub invariant-loop-b : goal.invariant-loop-b
invariant-loop-b l = Joined l.head l.initial.bits l.waiting (frames_of (take l.b-index l.«data»)) l.bits l.at
