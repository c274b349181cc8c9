-- `Resampler::new` meets its contract: the test of the rates is the definition's. Assumes nothing.
use Rattle.resampling.specs.Resample.{new_of}
use mathlib.Core.Bool.{not}
use mathlib.Core.Path.{sym, ap, ◌∙◌}
use Rattle.resampling.proofs.Answers.{in-range}
use Rattle.resampling.proofs.resample.Resampler.new.Goals as goal

pub fresh_at-state-requires : goal.fresh_at-state-requires
fresh_at-state-requires c = in-range _ _ (sym c.rates_ok.ensures ∙ ap not c.if-rates_ok.true)

pub returns-then-rates_ok : goal.returns-then-rates_ok
unfolding new_of
returns-then-rates_ok c =
    let e = sym c.rates_ok.ensures ∙ ap not c.if-rates_ok.true in record { state_value = rw (e, c.fresh_at-state.ensures) }

pub returns : goal.returns
unfolding new_of
returns c =
    let e = sym c.rates_ok.ensures ∙ ap not c.if-rates_ok.false in record { state_value = rw (e, c.fresh_at-state-2.ensures) }
