-- `state::all_steps` meets its contract. The invariant: what the rest makes of the receiver is what the whole script makes of it. Assumes nothing.
use Rattle.modem.specs.RxRep.{receiver_of}
use Rattle.snapshot.specs.ReceiverState.{receiver_after}
use Rattle.snapshot.specs.StateSteps.{Standing}
use lib.ListN.{drop}
use mathlib.Core.Path.{◌≡◌}
use Prim.Native.Nat.{◌*◌, ◌-◌}
use Rattle.snapshot.proofs.state.all_steps.Given as goal

abbrev pub invariant-loop-i : goal.invariant-loop-i
invariant-loop-i l = Standing l.spot l.samples × (receiver_after (l.calls - l.i) (receiver_of l.spot.state) (drop l.spot.read l.samples) (drop (3 * l.i) l.script) ≡ receiver_after l.calls (receiver_of l.initial.spot.state) l.samples l.script)
