-- Going down to 8,000 in rate: a run that asks for no room, each sample and the output that it makes ready, one at most. It goes over lists
-- joined, and with room enough `fed` is this run. Assumes nothing.
use Prim.Native.Nat.{ℕ, zero, suc, ◌+◌, ◌-◌, ◌*◌, ◌^◌, ◌≤◌}
use mathlib.Core.Path.{◌≡◌, refl, sym, ap, ◌∙◌, subst}
use mathlib.Core.Bool.{Bool, true, false}
use mathlib.Core.List.{List, [], ◌∷◌, ◌++◌, append_assoc}
use native.Mathlib.Nat.{add-zero, zero-mul, add-mul, one-mul}
use native.Mathlib.Omega.{arith}
use lib.ListN.{length}
use lib.Ieee.{Float}
use Rattle.numeric.specs.Bounds.{AtLeast}
use Rattle.resampling.specs.Flow.{Filter, Flow, Out, Ran, ran, wants, pushed, emitted, drained, fed}
use Rattle.resampling.proofs.FlowLaws.{drained-none}
use Rattle.resampling.proofs.Place.{pushed-place}
use Rattle.resampling.proofs.Settled.{most_samples, Tracked, Settled, Falling, pushed-tracked, ready-below, emitted-least, second_none}

-- ---- the run
-- a sample, and the output that it makes ready
abbrev pub taken : Filter → Float → Flow → Ran
taken f x s = drained f 1 (pushed f x s)

unfoldable pub flowing : Filter → List Float → Flow → Ran
flowing f [] s = ran [] s
flowing f (x ∷ xs) s =
    let d = taken f x s in
    let rest = flowing f xs d.flow in
    ran (d.out ++ rest.out) rest.flow

-- one run behind another
abbrev pub joined : Ran → Ran → Ran
joined a b = ran (a.out ++ b.out) b.flow

-- over lists joined
pub flowing-append : (f : Filter) (xs ys : List Float) (s : Flow) → flowing f (xs ++ ys) s ≡ joined (flowing f xs s) (flowing f ys (flowing f xs s).flow)
unfolding flowing
flowing-append f [] ys s = refl
flowing-append f (x ∷ xs) ys s =
    let r = taken f x s in
    ap (joined r) (flowing-append f xs ys r.flow) ∙ simp append_assoc

-- ---- one sample of it, and of `fed`
-- an output before a run
abbrev behind : Out → Ran → Ran
behind o r = ran (o.y ∷ r.out) r.flow

drained-one : (f : Filter) (room : ℕ) (s : Flow) → wants s ≡ true → wants (emitted f s).flow ≡ false
    → drained f (suc room) s ≡ behind (emitted f s) (ran [] (emitted f s).flow)
unfolding drained
drained-one f room s w v = rw w (rw (drained-none f room (emitted f s).flow v))

flowing-none : (f : Filter) (x : Float) (xs : List Float) (s : Flow) → wants (pushed f x s) ≡ false → flowing f (x ∷ xs) s ≡ flowing f xs (pushed f x s)
unfolding flowing
flowing-none f x xs s w = rw (drained-none f _ (pushed f x s) w)

flowing-one : (f : Filter) (x : Float) (xs : List Float) (s : Flow) → wants (pushed f x s) ≡ true → wants (emitted f (pushed f x s)).flow ≡ false
    → flowing f (x ∷ xs) s ≡ behind (emitted f (pushed f x s)) (flowing f xs (emitted f (pushed f x s)).flow)
unfolding flowing
flowing-one f x xs s w v = rw (drained-one f 0 (pushed f x s) w v)

fed-none : (f : Filter) (room : ℕ) (x : Float) (xs : List Float) (s : Flow) → wants (pushed f x s) ≡ false → fed f room (x ∷ xs) s ≡ fed f room xs (pushed f x s)
unfolding fed
fed-none f room x xs s w = let z : room - 0 ≡ room = omega arith in rw (drained-none f room (pushed f x s) w, w, z)

fed-one : (f : Filter) (room : ℕ) (x : Float) (xs : List Float) (s : Flow) → wants (pushed f x s) ≡ true → wants (emitted f (pushed f x s)).flow ≡ false
    → fed f (suc room) (x ∷ xs) s ≡ behind (emitted f (pushed f x s)) (fed f room xs (emitted f (pushed f x s)).flow)
unfolding fed
fed-one f room x xs s w v = let z : suc room - 1 ≡ room = omega arith in rw (drained-one f room (pushed f x s) w v, v, z)

module _ (σ : ℕ) (f : Filter) (d : Falling σ f) where
  one_more : (k a : ℕ) → k + 1 + a ≡ k + suc a
  one_more k a = omega arith

  -- ---- it keeps the invariant
  taken-settled : (x : Float) (k : ℕ) (s : Flow) → k + 1 ≤ most_samples → Settled k s → Settled (k + 1) (taken f x s).flow
  taken-settled x k s l p = go (wants (pushed f x s)) refl
    where
      t : Flow
      t = pushed f x s

      go : (b : Bool) → wants t ≡ b → Settled (k + 1) (taken f x s).flow
      go true w = let q = second_none σ f x k s d l p w in rw (drained-one f 0 t w q.none) q
      go false w = rw (drained-none f _ t w) (record { tracked = pushed-tracked f x k s l p.tracked; none = w })

  pub flowing-settled : (xs : List Float) (k : ℕ) (s : Flow) → k + length xs ≤ most_samples → Settled k s → Settled (k + length xs) (flowing f xs s).flow
  unfolding flowing
  flowing-settled [] k s l p = subst (λ (z : ℕ). Settled z s) (sym (add-zero k)) p
  flowing-settled (x ∷ xs) k s l p =
      let r = (taken f x s).flow in
      subst (λ (z : ℕ). Settled z (flowing f xs r).flow) (one_more k (length xs)) (flowing-settled xs (k + 1) r (omega arith) (taken-settled x k s (omega arith) p))

  -- ---- `fed` with room enough: p units of 2 ^ -20 are at most the place, and the room that is left takes it to the end of the input
  pub fed-flows : (xs : List Float) (room k p : ℕ) (s : Flow) → k + length xs ≤ most_samples → Settled k s → AtLeast s.place p (2 ^ 20)
      → (k + length xs - 2) * 2 ^ 20 ≤ p + room * σ → fed f room xs s ≡ flowing f xs s
  unfolding fed flowing
  fed-flows [] room k p s l q u h = refl
  fed-flows (x ∷ xs) room k p s l q u h = go (wants (pushed f x s)) refl room h (λ (r j m : ℕ). fed-flows xs r j m)
    where
      t : Flow
      t = pushed f x s

      v : AtLeast t.place p (2 ^ 20)
      v = subst (λ (z : Float). AtLeast z p (2 ^ 20)) (sym (pushed-place f x s)) u

      c : Tracked (k + 1) t
      c = pushed-tracked f x k s (omega arith) q.tracked

      go : (b : Bool) → wants t ≡ b → (room : ℕ) → (k + suc (length xs) - 2) * 2 ^ 20 ≤ p + room * σ
          → ((r j m : ℕ) (s : Flow) → j + length xs ≤ most_samples → Settled j s → AtLeast s.place m (2 ^ 20) → (j + length xs - 2) * 2 ^ 20 ≤ m + r * σ
          → fed f r xs s ≡ flowing f xs s)
          → fed f room (x ∷ xs) s ≡ flowing f (x ∷ xs) s
      go false w room h rest =
          fed-none f room x xs s w
          ∙ rest room (k + 1) p t (omega arith) (record { tracked = c; none = w }) v (omega arith)
          ∙ sym (flowing-none f x xs s w)
      go true w zero h rest = absurd (omega (arith, ready-below (k + 1) p t c v w, zero-mul σ))
      go true w (suc room) h rest =
          let n = second_none σ f x k s d (omega arith) q w in
          fed-one f room x xs s w n.none
          ∙ ap (behind (emitted f t))
          (rest room (k + 1) (p + σ) (emitted f t).flow (omega arith) n (emitted-least σ f (k + 1) p t d c w v) (omega (arith, add-mul room 1 σ, one-mul σ)))
          ∙ sym (flowing-one f x xs s w n.none)
