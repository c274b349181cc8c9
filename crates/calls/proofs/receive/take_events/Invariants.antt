-- `receive::take_events` meets its contract. The invariant: the first i events that wait are in the buffer. Assumes nothing.
use Rattle.calls.proofs.ReceiverCalls.{Taking}
use Rattle.modem.specs.RxRep.{receiver_of}
use Rattle.calls.proofs.receive.take_events.Given as goal

abbrev pub invariant-loop-i : goal.invariant-loop-i
invariant-loop-i l = Taking (receiver_of l.initial.state) l.initial.buf l.i (receiver_of l.state) l.buf
