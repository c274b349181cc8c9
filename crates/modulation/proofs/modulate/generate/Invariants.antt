-- `tx::generate` meets its contract: each turn stores eight samples more, and the last are stored singly. Assumes nothing.
use Prim.Native.Nat.{◌≤◌, ◌-◌}
use mathlib.Core.Path.{◌≡◌}
use lib.ListN.{length}
use Rattle.modulation.specs.Bits.{BitsHeld}
use Rattle.modulation.specs.Tone.{generated}
use Rattle.modulation.specs.ModulatorRep.{keyer_of}
use Rattle.modulation.proofs.Tones.{sound_at}
use Rattle.modulation.proofs.modulate.generate.Given as goal

abbrev pub invariant-loop-i : goal.invariant-loop-i
invariant-loop-i l = (l.i ≤ length l.initial.out) × (length l.out ≡ length l.initial.out) × BitsHeld l.bits l.wave.head l.wave.waiting × (sound_at l.out l.i (length l.initial.out) l.t (keyer_of l.bits l.wave) ≡ generated (length l.initial.out) l.t (keyer_of l.bits l.initial.wave))

abbrev pub decreases-loop-i : goal.decreases-loop-i
decreases-loop-i l = length l.initial.out - l.i
