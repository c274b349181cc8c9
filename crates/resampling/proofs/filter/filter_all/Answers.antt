-- `filter::filter_all` meets its contract. The invariant: the samples before i went through the filter, and those behind are as they came. Assumes nothing.
use Prim.Native.Nat.{◌+◌, ◌<◌}
use mathlib.Core.Path.{◌≡◌, refl}
use mathlib.Core.List.{◌∷◌}
use native.Mathlib.Omega.{arith}
use lib.ListN.{length, get_or, drop, length-set}
use lib.Seq.{drop-cons}
use lib.Ieee.{nan}
use native.Mathlib.Numerals.{add-one}
use Rattle.resampling.proofs.FilterLaws.{drop-two, none-filtered, one-filtered, filtered-turn, all-filtered}
use Rattle.resampling.proofs.filter.filter_all.Goals as goal

pub loop-i-init : goal.loop-i-init
loop-i-init c = (none-filtered c.requires, refl, refl, omega arith)

pub loop-i-preserved : goal.loop-i-preserved
loop-i-preserved c =
    let l = c.loop-i in
    let s₀ = c.args.samples.now in
    let f = c.fir_push_two-y.ensures in
    let t : l.i + 1 < length l.samples = c.loop-i-test.true in
    let g = filtered-turn s₀ l.samples l.i l.invariant.1 l.invariant.0 f (drop-two l.samples l.i t) refl (omega arith) in (
      rw (c.ring_next-place.ensures.0, c.ring_next.ensures.0, add-one) g.0,
      rw add-one g.1,
      simp length-set l.invariant.2,
      simp length-set (omega arith),
    )

pub returns-then-i-samples : goal.returns-then-i-samples
returns-then-i-samples c =
    let l = c.loop-i in
    let s₀ = c.args.samples.now in
    let f = one-filtered l.invariant.0.placed c.fir_push.ensures in
    let t : l.i < length l.samples = c.if-i-samples.true in
    let w : drop l.i l.samples ≡ get_or l.samples l.i nan ∷ drop (l.i + 1) l.samples = rw add-one (drop-cons l.samples l.i nan t) in
    let g = filtered-turn s₀ l.samples l.i l.invariant.1 l.invariant.0 f w refl (omega arith) in
    rw c.ring_next-then-i-samples.ensures.0 (all-filtered s₀ _ (l.i + 1) g.0 (simp length-set (omega arith)) (omega arith))
