use lib.ListN.{take}
use Rattle.framing.specs.Frame.{frame_of}
use Rattle.modulation.specs.Bits.{Joined}
use Rattle.modulation.proofs.bits.push_frame.Given as goal

abbrev pub invariant-loop-bit : goal.invariant-loop-bit
invariant-loop-bit l = Joined l.head l.initial.bits l.waiting (take l.bit-index (frame_of l.b)) l.bits l.at
