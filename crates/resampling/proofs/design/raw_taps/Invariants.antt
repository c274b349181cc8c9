-- `design::raw_taps` meets its contract. The invariant: the taps before i are right. Assumes nothing.
use mathlib.Core.Path.{◌≡◌}
use lib.ListN.{length, take}
use Rattle.numeric.specs.Fold.{tabulate}
use Rattle.resampling.specs.Design.{raw_tap, most_taps}
use Rattle.resampling.proofs.design.raw_taps.Given as goal

abbrev pub invariant-loop-i : goal.invariant-loop-i
invariant-loop-i l = (length l.taps ≡ most_taps) × (take l.i l.taps ≡ tabulate (raw_tap l.fs) l.i)
