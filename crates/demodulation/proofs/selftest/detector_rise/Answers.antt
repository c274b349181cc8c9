-- The loop's invariant: what the updates that are left give is what all of them give from a fresh detector. Assumes nothing.
use Rattle.std.specs.Prelude.{Some, None}
use Prim.Native.Nat.{ℕ, suc, ◌+◌, ◌-◌}
use mathlib.Core.Path.{◌≡◌, sym, ◌∙◌}
use native.Mathlib.Numerals.{add-one}
use native.Mathlib.Omega.{arith}
use lib.Ieee.{Float}
use Rattle.std.specs.Bool.{if◌then◌else◌}
use Rattle.demodulation.specs.Carrier.{updated}
use Rattle.demodulation.specs.Selftest.{first_up}
use Rattle.demodulation.specs.declared.carrier.CarrierDetector.{CarrierDetector}
use Rattle.demodulation.proofs.selftest.detector_rise.Goals as goal

-- one more update: up at the k-th, or what the m that are left give
one_more : (d r : CarrierDetector) (energy : Float) (n m k : ℕ) → n ≡ suc m → r ≡ updated d energy
    → first_up n k d energy ≡ (if r.detected then Some k else first_up m (k + 1) r energy)
unfolding first_up
one_more d r energy n m k p q = rw (p, q, add-one)

none : (d : CarrierDetector) (energy : Float) (n k : ℕ) → n ≡ 0 → first_up n k d energy ≡ None
unfolding first_up
none d energy n k p = rw p

pub returns-then-d : goal.returns-then-d
returns-then-d c =
    let l = c.loop-done in
    let n = c.args.updates in
    sym (l.invariant ∙ one_more l.d c.update-d.result _ (n - l.done) (n - (l.done + 1)) (l.done + 1) (omega arith) c.update-d.ensures ∙ rw c.if-d.true)

pub loop-done-preserved : goal.loop-done-preserved
loop-done-preserved c =
    let l = c.loop-done in
    let n = c.args.updates in
    l.invariant ∙ one_more l.d c.update-d.result _ (n - l.done) (n - (l.done + 1)) (l.done + 1) (omega arith) c.update-d.ensures ∙ rw c.if-d.false

pub returns : goal.returns
returns c =
    let l = c.loop-done in
    sym (l.invariant ∙ none l.d _ (c.args.updates - l.done) (l.done + 1) (omega arith))
