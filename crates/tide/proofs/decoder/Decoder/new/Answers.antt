-- Worked out. Assumes nothing.
use mathlib.Core.Path.{refl}
use Rattle.tide.specs.Decoder.{fresh_decoder}
use Rattle.tide.specs.Held.{held}
use Rattle.tide.proofs.DecoderRepLaws.{sound-of}
use Rattle.tide.proofs.decoder.Decoder.new.Goals as goal

pub invariant_of-result : goal.invariant_of-result
unfolding held
invariant_of-result c = record { places = refl; within = refl }

pub returns : goal.returns
unfolding fresh_decoder
returns c = record { same = rw c.new.ensures refl; sound = sound-of _ }
