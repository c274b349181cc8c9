-- Going down to 8,000 in rate, where a step is 1 at least: the state between two calls. No output is ready, and each sample that goes in makes
-- one ready at most. Assumes nothing.
use Prim.Native.Nat.{ℕ, zero, suc, ◌+◌, ◌-◌, ◌*◌, ◌^◌, ◌≤◌, ◌<◌}
use mathlib.Core.Path.{◌≡◌, refl, sym, ap, ap₂, ◌∙◌, subst}
use mathlib.Core.Bool.{true, false}
use mathlib.Core.List.{List}
use native.Mathlib.Nat.{le_trans, le_of_eq, lt_of_le_of_lt, lt_of_lt_of_le, mul-one, zero-mul, mul_right_comm, mul-le-mul_right, mul-lt-mul_of_pos_right, le_of_mul-le-mul_right, lt_of_mul-lt-mul_right}
use native.Mathlib.Omega.{arith}
use lib.Dec.{T, ltb, lit<, lit≤}
use borrow.Author.Tests.{le-ltb, ltb-true, ltb-false}
use lib.Ieee.{Float, round, sub, lt, of_int, of_bits}
use lib.Ieee.Positive.{num, den}
use Rattle.numeric.specs.F64.{◌⊕◌, ◌⊖◌, ◌<ᶠ◌, whole, zero64, one64, two64}
use Rattle.numeric.specs.Bounds.{non_negative, AtMost, AtLeast}
use Rattle.numeric.proofs.Whole.{add-whole}
use Rattle.numeric.proofs.BoundLaws.{at-most-more, at-least-finer, add-at-most, add-at-least}
use Rattle.resampling.specs.Flow.{Filter, Flow, Out, flow, wants, pushed, emitted, zero_window}
use Rattle.resampling.proofs.Place.{one-is, wants-at, either, pushed-place}

-- ---- the invariant
-- "31 the call would pass 4,294,967,296 samples": so many go in at most. The place and a step more are then below 2 ^ 53 units of 2 ^ -20,
-- and every whole number of these is an f64
abbrev pub most_samples : ℕ
most_samples = 2 ^ 32

-- k samples went in, and the place is at most k + 10
pub record Tracked (k : ℕ) (s : Flow) : Type 0 where
  pub count : s.count ≡ whole k
  pub few : k ≤ most_samples
  pub at : AtMost s.place (k + 10) (2 ^ 0)

-- what a fresh resampler gives and every call keeps: besides, no output is ready
pub record Settled (k : ℕ) (s : Flow) : Type 0 where
  pub tracked : Tracked k s
  pub none : wants s ≡ false

-- what it asks of the filter: the step is from 1 to 12, and σ units of 2 ^ -20 at least
pub record Falling (σ : ℕ) (f : Filter) : Type 0 where
  pub short : AtMost f.step 12 (2 ^ 0)
  pub long : AtLeast f.step σ (2 ^ 20)
  pub low : 2 ^ 20 ≤ σ
  pub high : σ ≤ 12 * 2 ^ 20

-- ---- whether an output is ready, in whole numbers
wants_is : (k : ℕ) (s : Flow) → Tracked k s → wants s ≡ ltb (num s.place) ((k - 2) * den s.place)
unfolding wants
wants_is k s c = ap (λ (z : Float). s.place <ᶠ z ⊖ two64) c.count ∙ wants-at s.place k c.at.is (omega (arith, c.few))

-- p / u at most x / d, which is below q
pass : (x p q u d : ℕ) → 0 < u → p * d ≤ x * u → x < q * d → p < q * u
pass x p q u d U h l = lt_of_mul-lt-mul_right d (lt_of_le_of_lt h (lt_of_lt_of_le (mul-lt-mul_of_pos_right l U) (le_of_eq (mul_right_comm q d u))))

-- q at most p / u, which is at most x / d
over : (x p q u d : ℕ) → 0 < u → p * d ≤ x * u → q * u ≤ p → q * d ≤ x
over x p q u d U h l = le_of_mul-le-mul_right (le_trans (le_of_eq (mul_right_comm q d u)) (le_trans (mul-le-mul_right d l) h)) U

-- one is ready: the place is below k - 2
pub ready-below : (k p : ℕ) (s : Flow) → Tracked k s → AtLeast s.place p (2 ^ 20) → wants s ≡ true → p < (k - 2) * 2 ^ 20
ready-below k p s c u w = pass (num s.place) p (k - 2) (2 ^ 20) (den s.place) (lit< tt) u.over (ltb-true _ _ (sym (wants_is k s c) ∙ w))

-- none is ready where the place is k - 2 at least
pub none_above : (k p : ℕ) (s : Flow) → Tracked k s → AtLeast s.place p (2 ^ 20) → (k - 2) * 2 ^ 20 ≤ p → wants s ≡ false
none_above k p s c u h = wants_is k s c ∙ le-ltb _ _ (over (num s.place) p (k - 2) (2 ^ 20) (den s.place) (lit< tt) u.over h)

-- and the other way round
pub none-least : (k : ℕ) (s : Flow) → Settled k s → AtLeast s.place ((k - 2) * 2 ^ 20) (2 ^ 20)
none-least k s p =
    let x = s.place in
    let u : AtLeast x (k - 2) 1 =
    record { is = p.tracked.at.is; over = le_trans (ltb-false _ _ (sym (wants_is k s p.tracked) ∙ p.none)) (le_of_eq (sym (mul-one (num x)))) } in
    at-least-finer (2 ^ 20) u

-- ---- a fresh one
pub start-settled : (h : List Float) → Settled 0 (flow h zero_window zero64 zero64)
unfolding wants of_bits of_int round sub lt
start-settled h = record { tracked = record { count = refl; few = lit≤ tt; at = record { is = tt; under = lit≤ tt } }; none = refl }

-- ---- one sample in
pushed-count : (f : Filter) (x : Float) (s : Flow) → (pushed f x s).count ≡ s.count ⊕ one64
unfolding pushed
pushed-count f x s = either (λ (t : Flow). t.count ≡ s.count ⊕ one64) f.decimating _ _ (λ _. refl) (λ _. refl)

pub pushed-tracked : (f : Filter) (x : Float) (k : ℕ) (s : Flow) → k + 1 ≤ most_samples → Tracked k s → Tracked (k + 1) (pushed f x s)
pushed-tracked f x k s l c =
    record {
      count = pushed-count f x s ∙ ap₂ ◌⊕◌ c.count one-is ∙ add-whole k 1 (omega arith);
      few = l;
      at = subst (λ (z : Float). AtMost z (k + 1 + 10) (2 ^ 0)) (sym (pushed-place f x s)) (at-most-more (omega arith) c.at);
    }

-- ---- one sample out
emitted-place : (f : Filter) (s : Flow) → (emitted f s).flow.place ≡ s.place ⊕ f.step
unfolding emitted
emitted-place f s = either (λ (o : Out). o.flow.place ≡ s.place ⊕ f.step) f.decimating _ _ (λ _. refl) (λ _. refl)

emitted-count : (f : Filter) (s : Flow) → (emitted f s).flow.count ≡ s.count
unfolding emitted
emitted-count f s = either (λ (o : Out). o.flow.count ≡ s.count) f.decimating _ _ (λ _. refl) (λ _. refl)

pub emitted-tracked : (σ : ℕ) (f : Filter) (k : ℕ) (s : Flow) → Falling σ f → Tracked k s → wants s ≡ true → Tracked k (emitted f s).flow
emitted-tracked σ f k s d c w =
    let x = s.place in
    let b : num x < (k - 2) * den x = ltb-true _ _ (sym (wants_is k s c) ∙ w) in
    let u : AtMost x (k - 2) (2 ^ 0) = record { is = c.at.is; under = omega (arith, mul-one (num x)) } in
    record {
      count = emitted-count f s ∙ c.count;
      few = c.few;
      at =
          subst (λ (z : Float). AtMost z (k + 10) (2 ^ 0)) (sym (emitted-place f s))
          (at-most-more (some k (num x) (den x) b) (add-at-most x f.step (k - 2) 12 0 (omega (arith, c.few)) (lit≤ tt) u d.short));
    }
  where
    some : (k a d : ℕ) → a < (k - 2) * d → k - 2 + 12 ≤ k + 10
    some zero a d h = absurd (omega (arith, zero-mul d))
    some (suc zero) a d h = absurd (omega (arith, zero-mul d))
    some (suc (suc k)) a d h = omega arith

-- the place goes on by σ
pub emitted-least : (σ : ℕ) (f : Filter) (k p : ℕ) (s : Flow) → Falling σ f → Tracked k s → wants s ≡ true → AtLeast s.place p (2 ^ 20)
    → AtLeast (emitted f s).flow.place (p + σ) (2 ^ 20)
emitted-least σ f k p s d c w u =
    let b = ready-below k p s c u w in
    let e = emitted-place f s in
    subst (λ (z : Float). AtLeast z (p + σ) (2 ^ 20)) (sym e)
    (add-at-least s.place f.step p σ 20 (omega (arith, c.few, d.high)) (lit≤ tt)
    (subst (λ (z : Float). T (non_negative z)) e (emitted-tracked σ f k s d c w).at.is) u d.long)

-- a sample into a settled one makes one output ready at most
pub second_none : (σ : ℕ) (f : Filter) (x : Float) (k : ℕ) (s : Flow) → Falling σ f → k + 1 ≤ most_samples → Settled k s → wants (pushed f x s) ≡ true
    → Settled (k + 1) (emitted f (pushed f x s)).flow
second_none σ f x k s d l p w =
    let t = pushed f x s in
    let c = pushed-tracked f x k s l p.tracked in
    let u : AtLeast t.place ((k - 2) * 2 ^ 20) (2 ^ 20) = subst (λ (z : Float). AtLeast z ((k - 2) * 2 ^ 20) (2 ^ 20)) (sym (pushed-place f x s)) (none-least k s p) in
    let v = emitted-least σ f (k + 1) ((k - 2) * 2 ^ 20) t d c w u in
    let c' = emitted-tracked σ f (k + 1) t d c w in
    record { tracked = c'; none = none_above (k + 1) ((k - 2) * 2 ^ 20 + σ) (emitted f t).flow c' v (omega (arith, d.low)) }
