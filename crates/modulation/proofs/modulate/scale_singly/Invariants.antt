-- `modulate::scale_singly` meets its contract: each turn stores one sample more. Assumes nothing.
use mathlib.Core.Path.{◌≡◌}
use mathlib.Core.List.{◌++◌, map}
use lib.ListN.{length, take, drop}
use Rattle.modulation.specs.Modulator.{scaled}
use Rattle.modulation.proofs.modulate.scale_singly.Given as goal

abbrev pub invariant-loop-i : goal.invariant-loop-i
invariant-loop-i l = (length l.out ≡ length l.initial.out) × (take l.i l.out ++ map (scaled l.a) (drop l.i l.xs) ≡ map (scaled l.a) l.xs)
