-- `receive::all_calls` meets its contract. The invariant: the calls so far, before what the rest does, are what the whole list does. Assumes nothing.
use Rattle.modem.specs.RxRep.{receiver_of}
use Rattle.calls.specs.Receive.{after, received_from}
use Rattle.calls.specs.ReceiveSteps.{Within}
use lib.ListN.{take, drop}
use mathlib.Core.Path.{◌≡◌}
use Prim.Native.Nat.{◌*◌, ◌-◌}
use Rattle.calls.proofs.receive.all_calls.Given as goal

abbrev pub invariant-loop-i : goal.invariant-loop-i
invariant-loop-i l = Within l.place l.samples l.bytes l.events
    × (after l.i (take l.place.bytes l.bytes) (take l.place.events l.events) (take (6 * l.i) l.answers) (received_from (l.calls - l.i) (receiver_of l.place.state) (drop l.place.read l.samples) (drop (3 * l.i) l.script) (drop l.place.bytes l.bytes) (drop l.place.events l.events) (drop (6 * l.i) l.answers)) ≡ received_from l.calls (receiver_of l.initial.place.state) l.samples l.script l.initial.bytes l.initial.events l.initial.answers)
