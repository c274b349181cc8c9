-- `tx::generate_singly` meets its contract: each turn stores one sample more. Assumes nothing.
use mathlib.Core.Path.{◌≡◌}
use lib.ListN.{length}
use Rattle.modulation.specs.Bits.{BitsHeld}
use Rattle.modulation.specs.Tone.{generated}
use Rattle.modulation.specs.ModulatorRep.{keyer_of}
use Rattle.modulation.proofs.Tones.{sound_at}
use Rattle.modulation.proofs.modulate.generate_singly.Given as goal

abbrev pub invariant-loop-x : goal.invariant-loop-x
invariant-loop-x l = (length l.out ≡ length l.initial.out) × BitsHeld l.bits l.wave.head l.wave.waiting
    × (sound_at l.out l.x-index (length l.initial.out) l.t (keyer_of l.bits l.wave) ≡ generated (length l.initial.out) l.t (keyer_of l.bits l.initial.wave))
