-- `numbers::sample_places` meets its contract. The invariant: the first i samples are laid out. Assumes nothing.
use mathlib.Core.Path.{◌≡◌}
use Rattle.modulation.specs.ModulatorRep.{pending_in}
use Rattle.modulation.proofs.NumberLaws.{filled}
use Rattle.modulation.proofs.numbers.sample_places.Given as goal

abbrev pub invariant-loop-i : goal.invariant-loop-i
invariant-loop-i l = l.a ≡ filled 64 (pending_in l.samples l.from l.upto) l.i
