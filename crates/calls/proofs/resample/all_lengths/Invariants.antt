-- `resample::all_lengths` meets its contract. The invariant: the calls so far, before what the rest does, are what the whole list does. Assumes nothing.
use Rattle.resampling.specs.ResampleRep.{state_of}
use Rattle.calls.specs.Resample.{after, lengths_from}
use lib.ListN.{take, drop}
use mathlib.Core.List.{[]}
use mathlib.Core.Path.{◌≡◌}
use Prim.Native.Nat.{◌*◌}
use Rattle.calls.proofs.resample.all_lengths.Given as goal

abbrev pub invariant-loop-i : goal.invariant-loop-i
invariant-loop-i l = after l.i [] (take (2 * l.i) l.answers) (lengths_from (state_of l.state) (drop l.i l.lengths) (drop (2 * l.i) l.answers)) ≡ lengths_from (state_of l.state) l.lengths l.initial.answers
