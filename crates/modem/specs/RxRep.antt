-- How the code's `Rx` holds what specs/Rx.antt speaks of, and the invariant of its states. Assumes nothing.
use Rattle.modem.specs.Queue.{queued, logged, BytesSound, EventsSound}
use Rattle.modem.specs.Rx.{Receiver, receiver}
use Rattle.modem.specs.ListenerRep.{demod_of, ListenerSound}
use Rattle.modem.specs.declared.rx.Rx.{Rx}

-- what `Rx` is in the definitions
unfoldable pub receiver_of : Rx → Receiver
receiver_of r = receiver (demod_of r.listener) (queued r.out) (logged r.events) r.listener.accepted

-- what each value of the type keeps (proofs/RxCalls.antt, rx-sound-of)
pub record RxSound (r : Rx) : Type 0 where
  pub listener : ListenerSound r.listener
  pub bytes : BytesSound r.out
  pub events : EventsSound r.events
