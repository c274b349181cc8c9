-- `Tx::new` meets its contract: the test of the rate is the definition's. Assumes nothing.
use Rattle.modulation.specs.Tx.{new_of}
use Rattle.refusal.specs.Refusals.{rate_refused}
use mathlib.Core.Bool.{not}
use mathlib.Core.Path.{refl, sym, ap, ◌∙◌}
use Rattle.modulation.proofs.tx.Tx.new.Goals as goal

pub returns-then-rate_ok : goal.returns-then-rate_ok
unfolding new_of
returns-then-rate_ok c =
    let e = sym c.rate_ok.ensures ∙ ap not c.if-rate_ok.true in
    rw (e, c.fresh_at-state.ensures)

pub fresh_at-state-requires-2 : goal.fresh_at-state-requires-2
unfolding rate_refused
fresh_at-state-requires-2 c = refl

pub returns : goal.returns
unfolding new_of
returns c =
    let e = sym c.rate_ok.ensures ∙ ap not c.if-rate_ok.false in
    rw (e, c.fresh_at-state-2.ensures)
