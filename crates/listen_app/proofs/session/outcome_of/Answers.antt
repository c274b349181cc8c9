-- The tests pick the case. Assumes nothing.
use mathlib.Core.Path.{refl}
use Rattle.listen_app.specs.Session.{outcome_of}
use Rattle.listen_app.proofs.session.outcome_of.Goals as goal

pub returns-then-failed : goal.returns-then-failed
unfolding outcome_of
returns-then-failed c = rw (c.if-told.true, c.if-failed.true) refl

pub returns-then-told : goal.returns-then-told
unfolding outcome_of
returns-then-told c = rw (c.if-told.true, c.if-failed.false) c.end_of.ensures

pub returns : goal.returns
unfolding outcome_of
returns c = rw c.if-told.false refl
