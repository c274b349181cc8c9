-- `feed::drain` meets its contract. The invariant: what is left to drain from where the loop stands is what was to drain at its start. Assumes nothing.
use Prim.Native.Nat.{ℕ, ◌-◌}
use mathlib.Core.Bool.{true}
use mathlib.Core.List.{List}
use lib.Ieee.{Float}
use mathlib.Core.Path.{◌≡◌}
use lib.ListN.{length}
use Rattle.resampling.specs.FlowRep.{flow_of, filter_in, run, drained_into}
use Rattle.resampling.proofs.feed.drain.Given as goal

abbrev pub invariant-loop-moving : goal.invariant-loop-moving
invariant-loop-moving l = ((n : ℕ) → (taps ring : List Float) → drained_into (filter_in n taps true l.step) (run (flow_of n ring l.moving) l.output l.at) ≡ drained_into (filter_in n taps true l.step) (run (flow_of n ring l.initial.moving) l.initial.output l.from))
    × (l.moving.fir_pos ≡ l.initial.moving.fir_pos) × (length l.output ≡ length l.initial.output)

abbrev pub decreases-loop-moving : goal.decreases-loop-moving
decreases-loop-moving l = length l.initial.output - l.at
