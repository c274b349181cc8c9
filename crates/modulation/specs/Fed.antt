-- How many samples went into a sender's resampler. Assumes nothing.
use Rattle.std.specs.Prelude.{ℕ, ◌^◌, ◌≤◌, ◌<◌, ◌≡◌}
use Rattle.std.proofs.Common.{ap, sym, ◌∙◌}
use Rattle.std.proofs.Props.{props}
use mathlib.Core.Path.{subst}
use native.Mathlib.Nat.{le_refl}
use native.Mathlib.Omega.{arith}
use borrow.Author.Tests.{le-ltb, ltb-false}
use Rattle.numeric.specs.F64.{◌<ᶠ◌, whole}
use Rattle.numeric.proofs.Whole.{lt-wholes}
use Rattle.resampling.specs.Flow.{Reached}
use Rattle.resampling.specs.Resample.{State}

-- at least j samples went into the resampler, and at most `most`
pub record Fed (j most : ℕ) (s : State) : Type 0 where
  pub count : ℕ
  pub reached : Reached count s.flow
  pub at_least : j ≤ count
  pub at_most : count ≤ most

-- ---- how many these are is one number, since the resampler counts them
no_more : (a b : ℕ) → a < 2 ^ 52 → b < 2 ^ 52 → whole a ≡ whole b → b ≤ a
no_more a b h k e =
    ltb-false a b (sym (lt-wholes a b (omega arith) (omega arith)) ∙ ap (λ x. x <ᶠ whole b) e ∙ lt-wholes b b (omega arith) (omega arith) ∙ le-ltb b b (le_refl b))

module _ (j most : ℕ) (s : State) where
  abbrev Facts : ℕ → Type 0
  Facts k = Reached k s.flow × (j ≤ k) × (k ≤ most)

  facts-prop : (k : ℕ) → IsProp (Facts k)
  facts-prop k = hlevel props

  abbrev fed_by : (k : ℕ) → Facts k → Fed j most s
  fed_by k f = record { count = k; reached = f.0; at_least = f.1; at_most = f.2 }

  one : (k n : ℕ) → k ≡ n → (a : Facts k) (b : Facts n) → fed_by k a ≡ fed_by n b
  one k n e = subst (λ m. (a : Facts k) (b : Facts m) → fed_by k a ≡ fed_by m b) e (λ a b. ap (fed_by k) (facts-prop k a b))

  pub Fed-prop : IsProp (Fed j most s)
  Fed-prop x y =
      let e = sym x.reached.count ∙ y.reached.count in
      let a = no_more x.count y.count x.reached.few y.reached.few e in
      let b = no_more y.count x.count y.reached.few x.reached.few (sym e) in
      one x.count y.count (omega (arith, a, b)) (x.reached, x.at_least, x.at_most) (y.reached, y.at_least, y.at_most)
