-- `tx::fresh_at` meets its contract: by those of its parts. Assumes nothing.
use Rattle.modulation.proofs.Calls.{fresh-resampler, fresh-rates, fresh-fed, in-range}
use Rattle.modulation.specs.TxRep.{modulator_of, sender_of}
use Rattle.modulation.specs.Tx.{fresh_modulator}
use Rattle.modulation.specs.Bits.{queued}
use Rattle.resampling.specs.ResampleRep.{state_of}
use Rattle.resampling.specs.Resample.{State}
use mathlib.Core.Path.{ap, ◌∙◌}
use Rattle.modulation.proofs.tx.Tx.fresh_at.Goals as goal

pub invariant_of-result-clause-rising : goal.invariant_of-result-clause-rising
unfolding state_of
invariant_of-result-clause-rising c =
    let rate = c.args.rate in
    let st = fresh-resampler rate c.requires _ _ c.new-c.ensures.state_value in
    let ok = in-range rate c.requires in
    record { low = ok.0; high = ok.1; src = ap (λ (x : State). x.src) st ∙ (fresh-rates rate).0; dst = ap (λ (x : State). x.dst) st ∙ (fresh-rates rate).1 }

pub invariant_of-result-clause-fed : goal.invariant_of-result-clause-fed
invariant_of-result-clause-fed c = fresh-fed c.args.rate _ (fresh-resampler c.args.rate c.requires _ _ c.new-c.ensures.state_value)

pub returns : goal.returns
unfolding sender_of modulator_of fresh_modulator state_of queued
returns c = rw (fresh-resampler c.args.rate c.requires _ _ c.new-c.ensures.state_value, c.new-nco.ensures, c.tones-pair.ensures)
