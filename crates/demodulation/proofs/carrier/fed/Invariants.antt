-- The loop's invariant: the first i filters are done, and the others are as they were. Assumes nothing.
use mathlib.Core.Path.{◌≡◌}
use Rattle.std.specs.Prelude.{map, length, take, drop}
use Rattle.demodulation.specs.Goertzel.{goertzel_feed}
use Rattle.demodulation.proofs.carrier.fed.Given as goal

abbrev pub invariant-loop-i : goal.invariant-loop-i
invariant-loop-i g l =
    (length l.gs ≡ length l.initial.gs)
    × (take l.i l.gs ≡ map (goertzel_feed l.x) (take l.i l.initial.gs))
    × (drop l.i l.gs ≡ drop l.i l.initial.gs)
