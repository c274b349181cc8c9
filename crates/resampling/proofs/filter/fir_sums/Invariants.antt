-- `filter::fir_sums` meets its contract. The invariant: the rest of each sum, from where the loop stands, is the whole sum; the second is one tap on. Assumes nothing.
use mathlib.Core.Path.{◌≡◌}
use Prim.Native.Nat.{◌+◌, ◌-◌, ◌<◌}
use lib.ListN.{take, drop}
use Rattle.resampling.specs.FilterRep.{walk}
use Rattle.resampling.specs.Filter.{sum_from, filtered, newest}
use Rattle.resampling.proofs.filter.fir_sums.Given as goal

abbrev pub invariant-loop-i : goal.invariant-loop-i
invariant-loop-i l = (sum_from l.first (drop l.i (take l.n l.taps)) (walk (l.n - l.i) l.n l.idx l.hist) ≡ filtered (take l.n l.taps) (walk l.n l.n l.pos l.hist))
    × (sum_from l.second (drop (l.i + 1) (take l.n l.taps)) (walk (l.n - (l.i + 1)) l.n l.idx l.hist) ≡ filtered (take l.n l.taps) (newest l.later (walk l.n l.n l.pos l.hist)))
    × (l.idx < l.n)
