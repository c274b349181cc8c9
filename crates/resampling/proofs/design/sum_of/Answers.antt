-- `design::sum_of` meets its contract. The invariant: the rest of the sum, from where the loop stands, is the whole sum. Assumes nothing.
use mathlib.Core.Path.{refl}
use Rattle.resampling.specs.Design.{total}
use Rattle.resampling.proofs.design.sum_of.Goals as goal

pub loop-i-init : goal.loop-i-init
unfolding total
loop-i-init c = refl
