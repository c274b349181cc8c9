-- What each turn reads stands behind what was read before. Assumes nothing.
use Rattle.listen_app.specs.Session.{listening, HeardSome}
use Rattle.listen_app.proofs.session.read_all.Given as goal

abbrev pub invariant-loop : goal.invariant-loop
invariant-loop g l = HeardSome (listening l.initial.session) l.session
