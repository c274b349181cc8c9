-- The line is what `longer` ensures. Assumes nothing.
use mathlib.Core.Path.{refl}
use Rattle.tide.specs.Decoder.{moved, grown}
use Rattle.tide.proofs.Moves.{stepped-on}
use Rattle.tide.proofs.decoder.Decoder.grow.Goals as goal

pub returns : goal.returns
unfolding moved grown
returns c = stepped-on _ _ _ refl (rw (← c.longer-self.ensures) refl) refl refl
