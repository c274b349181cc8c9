-- The loop's invariant: the samples that are left bring the block to where all 255 bring a fresh one. The 256th ends it, since the
-- count is then 255. Assumes nothing.
use borrow.Author.Tests.{lt-ltb, le-ltb}
use Prim.Native.Nat.{ℕ, zero, suc, ◌<◌, ◌+◌, ◌-◌}
use mathlib.Core.Path.{◌≡◌, sym, ap, ◌∙◌}
use native.Mathlib.Omega.{arith}
use lib.Ieee.{Float}
use Rattle.demodulation.specs.Carrier.{Answered, answered_by, fresh_dominance, dominance_step}
use Rattle.demodulation.proofs.CarrierLaws.{step-says, count-after}
use Rattle.demodulation.specs.Selftest.{fed, fresh_block, all_but_one, block_says}
use Rattle.demodulation.specs.declared.carrier.ToneDominance.{ToneDominance}
use Rattle.demodulation.specs.declared.carrier.Judged.{Judged}
use Rattle.demodulation.proofs.selftest.block_verdict.Goals as goal

one_more : (d : ToneDominance) (x : Float) (n m : ℕ) (j : Judged) → n ≡ suc m → answered_by j ≡ dominance_step d x → fed n x d ≡ fed m x j.state
unfolding fed
one_more d x n m j p q = rw (p, ap (λ (a : Answered). a.state) q)

none_left : (d : ToneDominance) (x : Float) (n : ℕ) → n ≡ 0 → fed n x d ≡ d
unfolding fed
none_left d x n p = rw p

counted : (n : ℕ) (x : Float) (d : ToneDominance) → d.count + n < 256 → (fed n x d).count ≡ d.count + n
unfolding fed
counted zero x d h = omega arith
counted (suc n) x d h =
    let e : (dominance_step d x).state.count ≡ d.count + 1 = count-after d x ∙ rw (lt-ltb (d.count + 1) 256 (omega arith)) in
    counted n x (dominance_step d x).state (omega arith) ∙ omega arith

ends : (mark_hz own_mark_hz own_space_hz x : Float) → (dominance_step (all_but_one mark_hz own_mark_hz own_space_hz x) x).answer ≡ block_says mark_hz own_mark_hz own_space_hz x
unfolding fresh_dominance
ends mark_hz own_mark_hz own_space_hz x =
    let d = all_but_one mark_hz own_mark_hz own_space_hz x in
    let e : d.count ≡ 255 = counted 255 x (fresh_block mark_hz own_mark_hz own_space_hz) (omega arith) in
    step-says d x ∙ rw (le-ltb (d.count + 1) 256 (omega arith))

pub loop-preserved : goal.loop-preserved
loop-preserved c =
    let l = c.loop in
    l.invariant ∙ one_more l.d _ (255 - l.counter) (255 - (l.counter + 1)) c.feed.result (omega arith) c.feed.ensures

pub returns : goal.returns
returns c =
    let l = c.loop in
    let a = c.args in
    ap (λ (j : Answered). j.answer) c.feed-2.ensures
    ∙ ap (λ (d : ToneDominance). (dominance_step d a.x).answer) (sym (l.invariant ∙ none_left l.d a.x (255 - l.counter) (omega arith)))
    ∙ ends a.mark_hz a.own_mark_hz a.own_space_hz a.x
