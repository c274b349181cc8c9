-- What is left from each place on makes of the host what the whole makes of it from the start on. Assumes nothing.
use mathlib.Core.Path.{refl, ◌∙◌}
use native.Mathlib.Omega.{arith}
use Rattle.listen_app.specs.HostRep.{host_of}
use Rattle.listen_app.proofs.Hosting.{eights-on, eights-end, eights-all}
use Rattle.listen_app.proofs.host.Host.write_eights.Goals as goal

pub loop-left-init : goal.loop-left-init
loop-left-init c = (omega arith, refl)

pub eight_on-at-requires : goal.eight_on-at-requires
eight_on-at-requires c = c.loop-left.invariant.0

pub loop-left-preserved : goal.loop-left-preserved
loop-left-preserved c =
    let t = c in
    let w = c.write_front-host.ensures in
    let e = c.eight_on-at.ensures in
    (omega (arith, e), eights-on _ _ _ _ _ _ t.loop-left-test.true e w.same ∙ t.loop-left.invariant.1)

pub returns : goal.returns
returns c =
    let l = c.loop-left.invariant in
    let a = c.args in
    record { same = eights-all a.samples.now (host_of a.self) _ (eights-end _ _ _ _ c.loop-left-test.false l.1) }
