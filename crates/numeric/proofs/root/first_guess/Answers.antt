-- Bits below 2^63 leave room for what is added. Assumes nothing.
use Rattle.numeric.proofs.Whole.{not-nan}
use Rattle.numeric.proofs.RootLaws.{guess-number}
use Rattle.numeric.proofs.root.first_guess.Goals as goal

pub float_to_bits-result : goal.float_to_bits-result
float_to_bits-result c = not-nan _ c.requires.0

pub float_from_bits-result : goal.float_from_bits-result
float_from_bits-result c = guess-number _ c.requires.1
