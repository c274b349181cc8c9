-- The number says whether a fresh board is to hear the piece. Assumes nothing.
use mathlib.Core.Path.{sym, ap, ◌∙◌}
use Rattle.listen_app.specs.Host.{PlainHost, wrote}
use Rattle.listen_app.proofs.Hosting.{piece-fresh, piece-room, hosts-as}
use Rattle.listen_app.proofs.host.Host.with_room.Goals as goal

pub returns-then-a-eq31 : goal.returns-then-a-eq31
returns-then-a-eq31 c =
    let t = c in
    let s = t in
    hosts-as
    (piece-fresh _ _ _ s.requires.number t.if-a-eq31.true ∙ ap (λ (g : PlainHost). wrote g s.args.samples.now) (sym c.start_again.ensures.same))
    c.write-again.ensures.host

pub returns : goal.returns
returns c =
    let s = c in
    hosts-as (piece-room _ _ _ s.requires.number c.if-a-eq31.false) s.requires.host
