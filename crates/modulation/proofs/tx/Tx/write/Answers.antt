-- `Tx::write` meets its contract: the queue is as `ask_frames` leaves it. Assumes nothing.
use Rattle.modulation.specs.Requests.{write}
use Rattle.modulation.proofs.QueueingLaws.{queued-so}
use Rattle.modulation.proofs.tx.Tx.write.Goals as goal

pub returns : goal.returns
returns c = record { state_value = queued-so _ _ (write c.args.«data».now) _ _ c.ask_frames-asked.ensures c.with_bits-state.ensures }
