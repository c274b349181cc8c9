-- `filter::fir_sum` meets its contract. The invariant: the rest of the sum, from where the loop stands, is the whole sum. Assumes nothing.
use mathlib.Core.Path.{◌≡◌}
use Prim.Native.Nat.{◌-◌, ◌<◌}
use lib.ListN.{take, drop}
use Rattle.resampling.specs.FilterRep.{walk}
use Rattle.resampling.specs.Filter.{sum_from, filtered}
use Rattle.resampling.proofs.filter.fir_sum.Given as goal

abbrev pub invariant-loop-i : goal.invariant-loop-i
invariant-loop-i l = (sum_from l.acc (drop l.i (take l.n l.taps)) (walk (l.n - l.i) l.n l.idx l.hist) ≡ filtered (take l.n l.taps) (walk l.n l.n l.pos l.hist)) × (l.idx < l.n)
