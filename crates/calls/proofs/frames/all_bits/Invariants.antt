-- `frames::all_bits` meets its contract. The invariant: the first i bits are pushed, and their answers stand in front. Assumes nothing.
use Prim.Native.Nat.{◌*◌}
use mathlib.Core.Path.{◌≡◌}
use mathlib.Core.List.{◌++◌, map}
use lib.ListN.{take, drop}
use Rattle.framing.specs.Frame.{after}
use Rattle.calls.specs.Frames.{mark_in, push_replies}
use Rattle.calls.proofs.frames.all_bits.Given as goal

abbrev pub invariant-loop-i : goal.invariant-loop-i
invariant-loop-i l = (l.d ≡ after l.initial.d (map mark_in (take l.i l.bits)))
    × (l.answers ≡ push_replies l.initial.d (map mark_in (take l.i l.bits)) ++ drop (6 * l.i) l.initial.answers)
