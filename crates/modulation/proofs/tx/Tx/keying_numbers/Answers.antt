-- `Tx::keying_numbers` meets its contract. Assumes nothing.
use native.Mathlib.Omega.{arith}
use Rattle.modulation.specs.Bits.{queued_length}
use Rattle.modulation.specs.TxRep.{modulator_of, sender_of}
use Rattle.modulation.proofs.NumberLaws.{samples-long}
use Rattle.modulation.proofs.tx.Tx.keying_numbers.Goals as goal

pub returns : goal.returns
unfolding sender_of modulator_of
returns c =
    let t = c.args.self in
    let p = c.args.self.pending_held in
    rw (c.mark_number-current.ensures, c.widen-amplitude.ensures, queued_length t.bits t.wave.head t.wave.waiting, samples-long t.pending t.from t.upto p.ordered (omega (arith, p.room, p.places)))
