-- Either move drops the line. Assumes nothing.
use mathlib.Core.Path.{refl}
use Rattle.tide.specs.Decoder.{cleared}
use Rattle.tide.proofs.Moves.{stepped-clear}
use Rattle.tide.proofs.decoder.Decoder.clear.Goals as goal

pub returns : goal.returns
unfolding cleared
returns c = stepped-clear _ _ _ (rw c.emptied-self.ensures refl) refl refl
