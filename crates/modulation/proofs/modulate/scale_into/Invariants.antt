-- `modulate::scale_into` meets its contract: each turn stores four samples more, and the last are stored singly. Assumes nothing.
use Prim.Native.Nat.{◌≤◌, ◌-◌}
use mathlib.Core.Path.{◌≡◌}
use mathlib.Core.List.{◌++◌, map}
use lib.ListN.{length, take, drop}
use Rattle.modulation.specs.Modulator.{scaled}
use Rattle.modulation.proofs.modulate.scale_into.Given as goal

abbrev pub invariant-loop-i : goal.invariant-loop-i
invariant-loop-i l = (l.i ≤ length l.initial.out) × (length l.out ≡ length l.initial.out) × (take l.i l.out ++ map (scaled l.a) (drop l.i l.xs) ≡ map (scaled l.a) l.xs)

abbrev pub decreases-loop-i : goal.decreases-loop-i
decreases-loop-i l = length l.initial.out - l.i
