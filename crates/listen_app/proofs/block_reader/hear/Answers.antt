-- From place i on a host hears what it hears from the start on. Assumes nothing.
use native.Mathlib.Omega.{arith}
use mathlib.Core.Path.{refl, sym, ◌∙◌}
use Rattle.listen_app.specs.Listener.{acted_by}
use Rattle.listen_app.proofs.Hearing.{next-heard, read-on, byte_at}
use Rattle.listen_app.specs.BlockReaderRep.{filled}
use Rattle.listen_app.proofs.block_reader.hear.Goals as goal

pub loop-i-init : goal.loop-i-init
loop-i-init c =
    let p = c.requires in
    (p.0, omega arith, omega (arith, p.1), λ _. refl, λ h. refl)

pub after-f-requires : goal.after-f-requires
after-f-requires c = c.loop-i.invariant.0

pub loop-i-preserved : goal.loop-i-preserved
loop-i-preserved c =
    let l = c.loop-i in
    let t = c.loop-i-test.true in
    let q = sym c.is_quiet.ensures ∙ c.if-is_quiet.true in
    let a = c.add_byte-s in
    let f = c.after-f.ensures in
    let b = byte_at (filled l.wav l.f l.block) _ a.result a.ensures (f.same l.wav a.result.state) in (
      f.sound,
      omega (arith, l.invariant.1),
      omega (arith, t),
      λ e. absurd (omega (arith, e, l.invariant.1)),
      λ h. next-heard h _ _ _ _ l.invariant.0 t b q ∙ l.invariant.4 h,
    )

pub returns-else-is_quiet : goal.returns-else-is_quiet
unfolding acted_by
returns-else-is_quiet c =
    let l = c.loop-i.invariant in
    record {
      sound = l.0;
      on = read-on _ _ _ l.1 l.3 (sym c.is_quiet.ensures ∙ c.if-is_quiet.false);
      within = l.2;
      same = l.4;
    }

pub returns-after-loop-i : goal.returns-after-loop-i
unfolding acted_by
returns-after-loop-i c =
    let l = c.loop-i.invariant in
    record {
      sound = l.0;
      on = omega (arith, c.loop-i-test.false, c.requires.1);
      within = l.2;
      same = l.4;
    }
