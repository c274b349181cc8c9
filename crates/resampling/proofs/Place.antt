-- The place of the next output over a run that goes up in rate. A step is then at most 1.0, so that the place stays within one of the
-- number of samples that went in, and two samples after a first make an output ready. Assumes nothing.
use Prim.Native.Nat.{ℕ, zero, suc, ◌+◌, ◌-◌, ◌*◌, ◌^◌, ◌≤◌, ◌<◌}
use mathlib.Core.Path.{◌≡◌, refl, sym, ap, ap₂, ◌∙◌, subst}
use mathlib.Core.Bool.{Bool, true, false}
use mathlib.Core.List.{List, [], ◌∷◌}
use native.Mathlib.Nat.{le_refl, le_of_lt, mul-one, zero-mul, mul-lt-mul_of_pos_right}
use native.Mathlib.Omega.{arith}
use lib.Dec.{T, ltb, lit<, lit≤}
use lib.ListN.{length}
use borrow.Author.Tests.{lt-ltb, le-ltb, ltb-true, ltb-false}
use lib.Ieee.{Float, nan, inf, fin, round, sub, lt, of_int, of_bits}
use lib.Ieee.Positive.{num, den, den_pos}
use Rattle.refusal.specs.Refusals.{dsp_rate, highest_rate}
use Rattle.numeric.specs.F64.{◌⊕◌, ◌⊖◌, ◌⊘◌, ◌<ᶠ◌, whole, zero64, one64, two64}
use Rattle.std.specs.Prelude.{if◌then◌else◌}
use Rattle.numeric.proofs.Whole.{add-whole, sub-whole, lt-whole, div-whole}
use Rattle.numeric.specs.Bounds.{non_negative, AtMost}
use Rattle.numeric.proofs.BoundLaws.{at-most-more, add-at-most, round-at-most}
use Rattle.resampling.specs.Flow.{Filter, Flow, Out, Ran, wants, windowed, pushed, emitted, drained, fed, zero_window, flow}
use Rattle.resampling.specs.Flow.{Reached, Moved}
use Rattle.resampling.proofs.FlowLaws.{drained-none}

pub one-is : one64 ≡ whole 1
unfolding of_bits of_int round
one-is = refl

two_is : two64 ≡ whole 2
unfolding of_bits of_int round
two_is = refl

-- before the second sample nothing is covered
none_below : (x : Float) → T (non_negative x) → (k : ℕ) → k < 2 → x <ᶠ whole k ⊖ two64 ≡ ltb (num x) ((k - 2) * den x)
unfolding sub of_bits of_int round lt
none_below nan p k h = absurd p
none_below (inf s) p k h = absurd p
none_below (fin true m e) p k h = absurd p
none_below (fin false m e) p zero h = sym (le-ltb (num (fin false m e)) (0 * den (fin false m e)) (omega (arith, zero-mul (den (fin false m e)))))
none_below (fin false m e) p (suc zero) h = sym (le-ltb (num (fin false m e)) (0 * den (fin false m e)) (omega (arith, zero-mul (den (fin false m e)))))
none_below (fin false m e) p (suc (suc k)) h = absurd (omega arith)

pub wants-at : (x : Float) (k : ℕ) → T (non_negative x) → k < 2 ^ 53 → x <ᶠ whole k ⊖ two64 ≡ ltb (num x) ((k - 2) * den x)
wants-at x k p h = go (ltb k 2) refl
  where
    go : (b : Bool) → ltb k 2 ≡ b → x <ᶠ whole k ⊖ two64 ≡ ltb (num x) ((k - 2) * den x)
    go true e = none_below x p k (ltb-true k 2 e)
    go false e =
        ap (λ (z : Float). x <ᶠ whole k ⊖ z) two_is
        ∙ ap (λ (z : Float). x <ᶠ z) (sub-whole k 2 (ltb-false k 2 e) (le_of_lt h))
        ∙ lt-whole x (k - 2) p (omega arith)

-- whether the window covers the next output, in whole numbers
wants_is : (k : ℕ) (s : Flow) → Reached k s → wants s ≡ ltb (num s.place) ((k - 2) * den s.place)
unfolding wants
wants_is k s p = ap (λ (z : Float). s.place <ᶠ z ⊖ two64) p.count ∙ wants-at s.place k p.at.is (omega (arith, p.few))

never-below : (a n d : ℕ) → a < n * d → 0 < n
never-below a zero d h = absurd (omega (arith, zero-mul d))
never-below a (suc n) d h = omega arith

-- a property of a choice
pub either : {A : Type 0} (P : A → Type 0) (b : Bool) (u v : A) → (b ≡ true → P u) → (b ≡ false → P v) → P (if b then u else v)
either P true u v f g = f refl
either P false u v f g = g refl

-- a sample that goes in leaves the next output's place as it is
pub pushed-place : (f : Filter) (x : Float) (s : Flow) → (pushed f x s).place ≡ s.place
unfolding pushed
pushed-place f x s = either (λ (t : Flow). t.place ≡ s.place) f.decimating _ _ (λ _. refl) (λ _. refl)

pub start-reached : (h : List Float) → Reached 0 (flow h zero_window zero64 zero64)
unfolding of_bits of_int round
start-reached h = record { count = refl; few = lit< tt; at = record { is = tt; under = lit≤ tt } }

module _ (f : Filter) (short : AtMost f.step 1 (2 ^ 0)) where
  -- ---- one sample in
  windowed-reached : (k : ℕ) (s : Flow) (h : List Float) (y : Float) → k + 1 < 2 ^ 52 → Reached k s → Reached (k + 1) (windowed s h y)
  windowed-reached k s h y l p =
      record {
        count = ap₂ ◌⊕◌ p.count one-is ∙ add-whole k 1 (omega arith);
        few = l;
        at = at-most-more (omega arith) p.at;
      }

  pushed-reached : (x : Float) (k : ℕ) (s : Flow) → k + 1 < 2 ^ 52 → Reached k s → Reached (k + 1) (pushed f x s)
  unfolding pushed
  pushed-reached x k s l p =
      either (Reached (k + 1)) f.decimating _ _ (λ _. windowed-reached k s _ _ l p) (λ _. windowed-reached k s _ _ l p)

  -- ---- one sample out
  advanced-reached : (k : ℕ) (s : Flow) (h : List Float) → Reached k s → wants s ≡ true → Reached k (flow h s.window (s.place ⊕ f.step) s.count)
  advanced-reached k s h p w =
      let x = s.place in
      let b : num x < (k - 2) * den x = ltb-true _ _ (sym (wants_is k s p) ∙ w) in
      let some = never-below (num x) (k - 2) (den x) b in
      let u : AtMost x (k - 2) (2 ^ 0) = record { is = p.at.is; under = omega (arith, mul-one (num x)) } in
      record {
        count = p.count;
        few = p.few;
        at = at-most-more (omega arith) (add-at-most x f.step (k - 2) 1 0 (omega (arith, p.few)) (lit≤ tt) u short);
      }

  emitted-reached : (k : ℕ) (s : Flow) → Reached k s → wants s ≡ true → Reached k (emitted f s).flow
  unfolding emitted
  emitted-reached k s p w =
      either (λ (o : Out). Reached k o.flow) f.decimating _ _ (λ _. advanced-reached k s _ p w) (λ _. advanced-reached k s _ p w)

  drained-reached : (room k : ℕ) (s : Flow) → Reached k s → Reached k (drained f room s).flow
  unfolding drained
  drained-reached zero k s p = p
  drained-reached (suc room) k s p =
      either (λ (r : Ran). Reached k r.flow) (wants s) _ _ (λ w. drained-reached room k (emitted f s).flow (emitted-reached k s p w)) (λ w. p)

  -- ---- a whole input: no more goes in than there is, and its first sample does
  fed-moved : (room : ℕ) (xs : List Float) (k : ℕ) (s : Flow) → k + length xs < 2 ^ 52 → Reached k s → Moved k (length xs) (fed f room xs s).flow
  unfolding fed
  fed-moved room [] k s h p = record { to = k; reached = p; from = le_refl k; upto = omega arith }
  fed-moved room (x ∷ xs) k s h p =
      let d = drained f room (pushed f x s) in
      let t = drained-reached room (k + 1) (pushed f x s) (pushed-reached x k s (omega arith) p) in
      let r = fed-moved (room - length d.out) xs (k + 1) d.flow (omega arith) t in
      either (λ (r : Ran). Moved k (suc (length xs)) r.flow) (wants d.flow) _ _
      (λ w. record { to = k + 1; reached = t; from = omega arith; upto = omega arith })
      (λ w. record { to = r.to; reached = r.reached; from = omega (arith, r.from); upto = omega (arith, r.upto) })

  pub fed-moved-some : (room : ℕ) (x : Float) (xs : List Float) (k : ℕ) (s : Flow) → k + 1 + length xs < 2 ^ 52 → Reached k s
      → Moved (k + 1) (length xs) (fed f room (x ∷ xs) s).flow
  unfolding fed
  fed-moved-some room x xs k s h p =
      let d = drained f room (pushed f x s) in
      let t = drained-reached room (k + 1) (pushed f x s) (pushed-reached x k s (omega arith) p) in
      either (λ (r : Ran). Moved (k + 1) (length xs) r.flow) (wants d.flow) _ _
      (λ w. record { to = k + 1; reached = t; from = le_refl (k + 1); upto = omega arith })
      (λ w. fed-moved (room - length d.out) xs (k + 1) d.flow h t)

  -- ---- how much comes out
  fed-some : (room : ℕ) (x : Float) (xs : List Float) (s : Flow) → 1 ≤ room → wants (pushed f x s) ≡ true → 1 ≤ length (fed f room (x ∷ xs) s).out
  unfolding fed drained
  fed-some zero x xs s h w = absurd (omega arith)
  fed-some (suc room) x xs s h w = rw w (either (λ (r : Ran). 1 ≤ length r.out) (wants _) _ _ (λ v. omega arith) (λ v. omega arith))

  fed-on : (room : ℕ) (x : Float) (xs : List Float) (s : Flow) → wants (pushed f x s) ≡ false → (fed f room (x ∷ xs) s).out ≡ (fed f room xs (pushed f x s)).out
  unfolding fed
  fed-on room x xs s w = let z : room - 0 ≡ room = omega arith in rw (drained-none f room (pushed f x s) w, w, z)

  back : (k : ℕ) → k + 1 + 1 - 2 ≡ k
  back k = omega arith

  wants-second : (x y : Float) (k : ℕ) (s : Flow) → 1 ≤ k → k + 2 < 2 ^ 52 → Reached k s → wants (pushed f y (pushed f x s)) ≡ true
  wants-second x y k s l h p =
      let p1 = pushed-reached x k s (omega arith) p in
      let p2 = pushed-reached y (k + 1) (pushed f x s) (omega arith) p1 in
      let same : (pushed f y (pushed f x s)).place ≡ s.place = pushed-place f y (pushed f x s) ∙ pushed-place f x s in
      let u : num s.place * 1 ≤ (k - 1) * den s.place = p.at.under in
      let v : (k - 1) * den s.place < k * den s.place = mul-lt-mul_of_pos_right (omega arith) (den_pos s.place) in
      wants_is (k + 1 + 1) (pushed f y (pushed f x s)) p2
      ∙ ap (λ (z : Float). ltb (num z) ((k + 1 + 1 - 2) * den z)) same
      ∙ ap (λ (q : ℕ). ltb (num s.place) (q * den s.place)) (back k)
      ∙ lt-ltb (num s.place) (k * den s.place) (omega arith)

  -- two samples or more, with one or more before them, give an output where there is room for it
  pub fed-yields : (room : ℕ) (x y : Float) (xs : List Float) (k : ℕ) (s : Flow) → 1 ≤ room → 1 ≤ k → k + 2 < 2 ^ 52 → Reached k s
      → 1 ≤ length (fed f room (x ∷ y ∷ xs) s).out
  fed-yields room x y xs k s r l h p = go (wants (pushed f x s)) refl
    where
      go : (b : Bool) → wants (pushed f x s) ≡ b → 1 ≤ length (fed f room (x ∷ y ∷ xs) s).out
      go true w = fed-some room x (y ∷ xs) s r w
      go false w = rw (fed-on room x (y ∷ xs) s w) (fed-some room y xs (pushed f x s) r (wants-second x y k s l h p))

-- going up in rate, a step is 1 at most
pub step-short : (rate : ℕ) → dsp_rate ≤ rate → rate ≤ highest_rate → AtMost (whole dsp_rate ⊘ whole rate) 1 (2 ^ 0)
step-short rate h l =
    subst (λ (z : Float). AtMost z 1 (2 ^ 0)) (sym (div-whole 8000 rate (omega arith) (lit≤ tt) (omega arith)))
    (round-at-most 8000 rate 1 0 (omega arith) (lit< tt) (lit≤ tt) (omega arith))
