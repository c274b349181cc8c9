-- `resample::all_scripted` meets its contract. The invariant: the calls so far, before what the rest does, are what the whole script does. Assumes nothing.
use Prim.Native.Nat.{◌*◌, ◌-◌}
use mathlib.Core.Path.{◌≡◌}
use lib.ListN.{take, drop}
use Rattle.resampling.specs.ResampleRep.{state_of}
use Rattle.calls.specs.Resample.{after, scripted_from, state_after}
use Rattle.calls.specs.Steps.{Within}
use Rattle.calls.proofs.resample.all_scripted.Given as goal

abbrev pub invariant-loop-i : goal.invariant-loop-i
invariant-loop-i l = Within l.place l.input l.output
    × (after l.i (take l.place.written l.output) (take (2 * l.i) l.answers) (scripted_from (l.calls - l.i) (state_of l.place.state) (drop l.place.read l.input) (drop (2 * l.i) l.script) (drop l.place.written l.output) (drop (2 * l.i) l.answers)) ≡ scripted_from l.calls (state_of l.initial.place.state) l.input l.script l.initial.output l.initial.answers)
    × (state_after (l.calls - l.i) (state_of l.place.state) (drop l.place.read l.input) (drop (2 * l.i) l.script) (drop l.place.written l.output) ≡ state_after l.calls (state_of l.initial.place.state) l.input l.script l.initial.output)
