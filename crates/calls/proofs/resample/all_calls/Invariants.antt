-- `resample::all_calls` meets its contract. The invariant: the calls so far, before what the rest does, are what the whole list does. Assumes nothing.
use Rattle.resampling.specs.ResampleRep.{state_of}
use Rattle.calls.specs.Steps.{Within}
use Rattle.calls.specs.Resample.{after, processed_from}
use lib.ListN.{take, drop}
use mathlib.Core.Path.{◌≡◌}
use Prim.Native.Nat.{◌*◌}
use Rattle.calls.proofs.resample.all_calls.Given as goal

abbrev pub invariant-loop-i : goal.invariant-loop-i
invariant-loop-i l = Within l.place l.input l.output
    × (after l.i (take l.place.written l.output) (take (2 * l.i) l.answers) (processed_from (state_of l.place.state) (drop l.place.read l.input) (drop l.i l.lengths) (drop l.place.written l.output) (drop (2 * l.i) l.answers)) ≡ processed_from (state_of l.initial.place.state) l.input l.lengths l.initial.output l.initial.answers)
