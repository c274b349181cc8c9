-- `feed::interpolate_all` meets its contract. The invariant: from the samples so far, once they pass the filter, the rest of the input does what the whole does from the start. Assumes nothing.
use Prim.Native.Nat.{ℕ, ◌≤◌}
use mathlib.Core.Path.{◌≡◌}
use mathlib.Core.Bool.{false}
use mathlib.Core.List.{List}
use lib.ListN.{length, take, drop}
use lib.Ieee.{Float}
use Rattle.resampling.specs.FlowRep.{flow_of, filter_in, run, fed_into, through_filter}
use Rattle.resampling.specs.FilterRep.{history_of}
use Rattle.resampling.proofs.feed.interpolate_all.Given as goal

abbrev pub invariant-loop-x : goal.invariant-loop-x
invariant-loop-x l = ((n : ℕ) → (taps ring : List Float) → fed_into (filter_in n taps false l.step) (drop l.x-index l.input) (through_filter (take n taps) (history_of n l.initial.moving.fir_pos ring) (run (flow_of n ring l.moving) l.output l.at))
    ≡ fed_into (filter_in n taps false l.step) l.input (run (flow_of n ring l.initial.moving) l.initial.output 0))
    × (length l.output ≡ length l.initial.output) × (l.at ≤ length l.output)
