-- The oldest is the first of the array, and those after it move one place to the front. Assumes nothing.
use Prim.Native.Nat.{◌-◌, ◌<◌}
use mathlib.Core.Path.{◌≡◌, refl, sym, ap, ap₂, ◌∙◌}
use mathlib.Core.Bool.{Bool, true, false}
use mathlib.Core.List.{List, [], ◌∷◌}
use native.Mathlib.Omega.{arith}
use lib.ListN.{get_or, take}
use lib.Seq.{take-take, take-suc}
use borrow.Author.Rules.{rules}
use Rattle.modem.specs.Queue.{Moved, Pops, event_of}
use Rattle.demodulation.specs.Demod.{events_of}
use Rattle.modem.specs.declared.queue.Events.{Events}
use Rattle.modem.specs.declared.queue.NextEvent.{NextEvent}
use Rattle.modem.proofs.Moves.{moved-rest}
use Rattle.modem.proofs.queue.Events.next.Goals as goal

event-is : (up : Bool) → events_of (event_of up) ≡ up ∷ []
event-is true = refl
event-is false = refl

popped : (q : Events) (moved : List Bool) (r : NextEvent) → r.state.held ≡ moved → r.state.count ≡ q.count - 1 → r.event ≡ event_of (get_or q.held 0 false)
    → 0 < q.count → Moved 1 63 q.held moved → Pops q r
popped q moved r e n v h m =
    record {
      oldest = ap events_of v ∙ event-is (get_or q.held 0 false) ∙ sym (take-suc q.held 0 false (omega (arith, q.places))) ∙ sym (take-take 1 q.count q.held h);
      rest = ap₂ take n e ∙ moved-rest 1 63 q.count q.held moved m (omega (arith, q.room));
    }

pub returns : goal.returns
returns c = popped c.args.self _ _ refl refl c.event_of-event.ensures (search rules) c.to_front.ensures
