-- `frames::put_frame` meets its contract. The invariant: the first i bits are written. Assumes nothing.
use mathlib.Core.Path.{◌≡◌}
use mathlib.Core.List.{map}
use lib.Seq.{paste}
use Rattle.framing.specs.Frame.{frame_of}
use Rattle.calls.specs.Answers.{bit}
use Rattle.calls.proofs.frames.put_frame.Given as goal

abbrev pub invariant-loop-i : goal.invariant-loop-i
invariant-loop-i l = l.bits ≡ paste l.initial.bits l.at (map bit (frame_of l.b)) l.i
