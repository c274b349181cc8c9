-- `frames::frame_bytes` meets its contract. The invariant: the frames of the first i bytes stand in front. Assumes nothing.
use Prim.Native.Nat.{◌*◌}
use mathlib.Core.Path.{◌≡◌}
use mathlib.Core.List.{◌++◌, map}
use lib.ListN.{take, drop}
use Rattle.framing.specs.Framing.{frames_of}
use Rattle.calls.specs.Answers.{bit}
use Rattle.calls.proofs.frames.frame_bytes.Given as goal

abbrev pub invariant-loop-i : goal.invariant-loop-i
invariant-loop-i l = (l.bits ≡ map bit (frames_of (take l.i l.bytes)) ++ drop (10 * l.i) l.initial.bits)
