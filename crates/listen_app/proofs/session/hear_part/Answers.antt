-- From each part on the host hears what it hears from the start on. Assumes nothing.
use native.Mathlib.Omega.{arith}
use mathlib.Core.Path.{refl, ap, ◌∙◌}
use Rattle.listen_app.specs.Listener.{Listener, heard_bytes}
use Rattle.listen_app.proofs.Hearing.{parts-end}
use lib.ListN.{drop}
use Rattle.listen_app.proofs.session.hear_part.Goals as goal

pub loop-at-init : goal.loop-at-init
loop-at-init c =
    let p = c.requires in
    (p.reader, omega arith, refl)

pub hear-h-requires : goal.hear-h-requires
hear-h-requires c =
    let l = c.loop-at in
    (l.invariant.0, c.loop-at-test.true)

pub loop-at-smaller : goal.loop-at-smaller
loop-at-smaller c =
    let h = c.hear-h.ensures in
    omega (arith, h.on, h.within)

pub returns : goal.returns
returns c =
    let l = c.loop-at.invariant in
    (record { reader = l.0 }, parts-end _ _ _ _ l.1 c.loop-at-test.false l.2)

pub loop-at-preserved : goal.loop-at-preserved
loop-at-preserved c =
    let h = c.hear-h in (
      h.ensures.sound,
      h.ensures.within,
      ap (λ (m : Listener). heard_bytes m (drop h.result.at c.args.input.now)) c.act_on-host.ensures
          ∙ (h.ensures.same _ ∙ c.loop-at.invariant.2),
    )
