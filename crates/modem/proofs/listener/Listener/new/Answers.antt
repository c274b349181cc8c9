-- The test of the rate is the definition's. Assumes nothing.
use mathlib.Core.Bool.{not}
use mathlib.Core.Path.{refl, sym, ap, ◌∙◌}
use Rattle.refusal.specs.Refusals.{first, rate_refused}
use Rattle.modem.specs.Listener.{admitted}
use Rattle.modem.proofs.listener.Listener.new.Goals as goal

pub fresh_at-requires : goal.fresh_at-requires
fresh_at-requires c = sym c.rate_ok.ensures ∙ ap not c.if-rate_ok.true

pub returns-then-rate_ok : goal.returns-then-rate_ok
unfolding first admitted
returns-then-rate_ok c =
    let e = sym c.rate_ok.ensures ∙ ap not c.if-rate_ok.true in
    record { answer = rw e refl; fresh = rw e c.fresh_at.ensures }

pub fresh_at-requires-2 : goal.fresh_at-requires-2
unfolding rate_refused
fresh_at-requires-2 c = refl

pub returns : goal.returns
unfolding first admitted
returns c =
    let e = sym c.rate_ok.ensures ∙ ap not c.if-rate_ok.false in
    record { answer = rw e refl; fresh = rw e c.fresh_at-2.ensures }
