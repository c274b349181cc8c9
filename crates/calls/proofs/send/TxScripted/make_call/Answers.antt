-- The sender's call of each kind is the definition's. Assumes nothing.
use mathlib.Core.Path.{ap, ◌∙◌}
use Rattle.modulation.specs.Tx.{Adjusted, Reading, amplitude_of}
use Rattle.modulation.specs.TxRep.{sender_of}
use Rattle.modulation.specs.Queueing.{Queueing}
use Rattle.refusal.specs.Refusals.{Reply}
use Rattle.std.specs.Prelude.{ℕ, length}
use Rattle.calls.specs.Send.{of_queueing, of_adjusted, of_reading, of_duration}
use Rattle.calls.proofs.ByKind.{called-is}
use Rattle.calls.proofs.send.TxScripted.make_call.Goals as goal

pub returns-in-Write : goal.returns-in-Write
returns-in-Write c =
    let a = c.args in
    record { part_after = rw c.number_in.ensures (ap (λ (q : Queueing). of_queueing q a.part.now) c.write-q.ensures.state_value) ∙ called-is a.n (sender_of a.self.now) a.bytes.now a.part.now a.kind _ (rw c.in-Write.is at c.from.ensures) }

pub returns-in-IdleMark : goal.returns-in-IdleMark
returns-in-IdleMark c =
    let a = c.args in
    record { part_after = rw c.number_in-in-IdleMark.ensures (ap (λ (q : Queueing). of_queueing q a.part.now) c.write_idle_mark-q.ensures.state_value) ∙ called-is a.n (sender_of a.self.now) a.bytes.now a.part.now a.kind _ (rw c.in-IdleMark.is at c.from.ensures) }

pub returns-in-Amplitude : goal.returns-in-Amplitude
returns-in-Amplitude c =
    let a = c.args in
    record {
      part_after = rw c.number_in-in-Amplitude.ensures (ap (λ (q : Adjusted). of_adjusted q a.part.now) (c.set_amplitude-a.ensures ∙ ap (amplitude_of (sender_of a.self.now)) c.amplitude_in.ensures))
          ∙ called-is a.n (sender_of a.self.now) a.bytes.now a.part.now a.kind _ (rw c.in-Amplitude.is at c.from.ensures);
    }

pub returns-in-Read : goal.returns-in-Read
returns-in-Read c =
    let a = c.args in
    record {
      part_after = rw (c.number_in-in-Read.ensures, c.unless_refused.ensures) (ap (λ (r : Reading). of_reading r (length a.part.now)) c.read-g.ensures.0)
          ∙ called-is a.n (sender_of a.self.now) a.bytes.now a.part.now a.kind _ (rw c.in-Read.is at c.from.ensures);
    }

pub returns-in-SamplesForBits : goal.returns-in-SamplesForBits
returns-in-SamplesForBits c =
    let a = c.args in
    let t = c.numbers_of-t.ensures in
    record {
      part_after = rw (t.0, t.1) (ap (λ (d : Reply ℕ). of_duration d (sender_of a.self.now) a.part.now) c.samples_for_bits.ensures)
          ∙ called-is a.n (sender_of a.self.now) a.bytes.now a.part.now a.kind _ (rw c.in-SamplesForBits.is at c.from.ensures);
    }
