-- The loop's invariant: the fold over the probes that are left gives the fold over all. Assumes nothing.
use mathlib.Core.Path.{◌≡◌}
use lib.ListN.{drop}
use Rattle.demodulation.specs.Carrier.{stronger, narrow_of}
use Rattle.numeric.specs.Fold.{fold}
use Rattle.demodulation.proofs.carrier.best.Given as goal

abbrev pub invariant-loop-g : goal.invariant-loop-g
invariant-loop-g l = fold stronger l.b (drop l.g-index l.g-items) ≡ narrow_of l.fn.gs
