-- Worked out. Assumes nothing.
use mathlib.Core.Path.{refl}
use Rattle.tide.specs.Decoder.{moved}
use Rattle.tide.proofs.Moves.{stepped-on}
use Rattle.tide.proofs.decoder.Decoder.stay.Goals as goal

pub returns : goal.returns
unfolding moved
returns c = stepped-on _ _ _ refl refl refl refl
