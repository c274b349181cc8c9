-- `tx::fill_rising` meets its contract: between passes what is written and what is left are together the whole. Assumes nothing.
use Rattle.modulation.proofs.Slices.{lent_length}
use Rattle.modulation.proofs.Slices.{rest-length}
use Rattle.modulation.proofs.Filling.{going_start, going-turn, going_end, fills-whole}
use lib.ListN.{length}
use mathlib.Core.Path.{◌≡◌, refl, ◌∙◌}
use native.Mathlib.Omega.{arith}
use Prim.Native.Nat.{◌<◌, ◌-◌}
use Rattle.modulation.proofs.tx.Tx.fill_rising.Goals as goal

pub loop-written-init : goal.loop-written-init
loop-written-init c = going_start c.args.self _ _ _ (rw (← c.hand_over-written.ensures.places) at c.hand_over-written.ensures) refl

pub loop-written-preserved : goal.loop-written-preserved
loop-written-preserved c =
    let l = c.loop-written in
    let g = l.invariant in
    let p = c.pass-p in
    let L = length c.hand_over-written.new.out in
    let w : l.written < L = omega (arith, c.loop-written-test.true, g.size) in
    let n = lent_length l.out l.written L g.size in
    let k = c.out-in-loop-written-1.given.1 in
    let rest = p.new.rest in
    let len : length rest ≡ L - l.written = rest-length l.out rest l.written L g.size g.within (k ∙ g.size) in
    going-turn c.args.self L l.out l.pending l.wave l.resampler l.upto l.written l.from l.passes rest _ _ _ _ _ _ g w
    (omega (arith, c.requires.1, c.hand_over-written.ensures.places)) (omega (arith, c.requires.2, c.hand_over-written.ensures.places)) c.requires.0 (rw n at p.ensures) len (k ∙ g.size)

pub with_passes-state-requires : goal.with_passes-state-requires
with_passes-state-requires c =
    let l = c.loop-written in
    let g = l.invariant in
    let f = going_end _ _ _ _ _ _ _ _ _ _ g c.loop-written-test.false in
    let e : length c.hand_over-written.new.out ≡ length c.args.out.now = c.hand_over-written.ensures.places in
    (f.rising, f.held, f.pending_held, rw (← g.size) at f.fed, omega (arith, c.requires.2, g.size, e))

pub returns : goal.returns
returns c =
    let g = c.loop-written.invariant in
    let e : length c.hand_over-written.new.out ≡ length c.args.out.now = c.hand_over-written.ensures.places in
    let f = going_end _ _ _ _ _ _ _ _ _ _ g c.loop-written-test.false in
    let s = c.with_passes-state.ensures in
    rw e at (fills-whole _ f g.size s.0 s.1)
