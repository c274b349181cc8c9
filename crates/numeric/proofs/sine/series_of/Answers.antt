-- `numeric::sine::series_of` meets its contract: the code's seven steps are the definition's, and each literal is the whole number of the list. Assumes nothing.
use Rattle.std.proofs.Common.{refl}
use lib.Ieee.{of_bits, of_int}
use Rattle.numeric.specs.Sine.{series, horner}
use Rattle.numeric.proofs.sine.series_of.Goals as goal

pub returns : goal.returns
unfolding series horner of_bits of_int
returns c = refl
