-- `feed::feed_pairs` meets its contract. The invariant: what the rest of the input does from where the loop stands is what the whole does from the start. Assumes nothing.
use Prim.Native.Nat.{◌-◌, ◌≤◌}
use mathlib.Core.Bool.{true}
use mathlib.Core.Path.{◌≡◌}
use lib.ListN.{length, drop}
use Rattle.resampling.specs.FlowRep.{flow_of, filter_in, run, fed_into}
use Rattle.resampling.specs.FilterRep.{Placed}
use Rattle.resampling.proofs.feed.feed_pairs.Given as goal

abbrev pub invariant-loop-i : goal.invariant-loop-i
invariant-loop-i l = (fed_into (filter_in l.n l.taps true l.step) (drop l.i l.input) (run (flow_of l.n l.hist l.moving) l.output l.at) ≡ fed_into (filter_in l.n l.taps true l.step) l.input (run (flow_of l.n l.initial.hist l.initial.moving) l.initial.output 0))
    × Placed l.n l.moving.fir_pos l.taps l.hist × (length l.output ≡ length l.initial.output) × (l.i ≤ length l.input)

abbrev pub decreases-loop-i : goal.decreases-loop-i
decreases-loop-i l = length l.input - l.i
