-- `filter::filter_all` meets its contract. The invariant: the samples before i went through the filter, and those behind are as they came. Assumes nothing.
use Prim.Native.Nat.{◌-◌, ◌≤◌}
use mathlib.Core.Path.{◌≡◌}
use lib.ListN.{length, take, drop}
use Rattle.resampling.specs.FilterRep.{AllFiltered}
use Rattle.resampling.proofs.filter.filter_all.Given as goal

abbrev pub invariant-loop-i : goal.invariant-loop-i
invariant-loop-i l = AllFiltered l.n l.pos l.place l.taps (take l.i l.initial.samples) l.initial.hist l.hist (take l.i l.samples) × (drop l.i l.samples ≡ drop l.i l.initial.samples) × (length l.samples ≡ length l.initial.samples) × (l.i ≤ length l.samples)

abbrev pub decreases-loop-i : goal.decreases-loop-i
decreases-loop-i l = length l.initial.samples - l.i
