-- `Tx::set_amplitude` meets its contract: the test of the amplitude is the definition's. Assumes nothing.
use Rattle.modulation.specs.TxRep.{modulator_of, sender_of}
use Rattle.modulation.specs.Tx.{amplitude_of}
use mathlib.Core.Bool.{not}
use mathlib.Core.Path.{sym, ap, ◌∙◌}
use Rattle.modulation.proofs.tx.Tx.set_amplitude.Goals as goal

pub returns-then-amplitude_ok : goal.returns-then-amplitude_ok
unfolding amplitude_of sender_of modulator_of
returns-then-amplitude_ok c =
    let e = sym c.amplitude_ok.ensures ∙ ap not c.if-amplitude_ok.true in
    rw e

pub returns : goal.returns
unfolding amplitude_of sender_of modulator_of
returns c =
    let e = sym c.amplitude_ok.ensures ∙ ap not c.if-amplitude_ok.false in
    rw e
