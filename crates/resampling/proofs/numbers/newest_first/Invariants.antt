-- `numbers::newest_first` meets its contract. The invariant: what is copied, and then the rest of the ring, is the history. Assumes nothing.
use Rattle.resampling.specs.Design.{most_taps}
use Rattle.resampling.specs.FilterRep.{ring_back, walk, history_of}
use lib.ListN.{length, take}
use mathlib.Core.List.{◌++◌}
use mathlib.Core.Path.{◌≡◌}
use Prim.Native.Nat.{◌-◌, ◌<◌}
use Rattle.resampling.proofs.numbers.newest_first.Given as goal

abbrev pub invariant-loop-i : goal.invariant-loop-i
invariant-loop-i l = (length l.a ≡ most_taps) × (0 < l.n → l.idx < l.n) × (take l.i l.a ++ walk (l.n - l.i) l.n (ring_back l.n l.idx) l.ring ≡ history_of l.n l.pos l.ring)
