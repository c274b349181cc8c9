-- The store of a count, and the place behind the last one. Assumes nothing.
use Prim.Native.Nat.{ℕ, zero, suc, ◌+◌, ◌≤◌, ◌<◌, min}
use mathlib.Core.Path.{◌≡◌, refl, sym, ap, ap₂}
use mathlib.Core.List.{List, [], ◌∷◌}
use lib.ListN.{length, get_or, set}
use native.Mathlib.Omega.{arith}
use borrow.Author.Tests.{ltb-true, ltb-false}
use Rattle.std.proofs.lemmas.Option.{cond_some}
use Rattle.std.specs.Prelude.{Some, None}
use Rattle.tide.specs.Decoder.{place, place_in}
use Rattle.tide.specs.Held.{most_count, held}
use Rattle.tide.proofs.DecoderRepLaws.{ended_none}

-- the code's store
first_of : List ℕ → ℕ
first_of [] = 0
first_of (n ∷ cs) = n

rest_of : List ℕ → List ℕ
rest_of [] = []
rest_of (n ∷ cs) = cs

pub held-set : (cs : List ℕ) (k : ℕ) → held cs ≡ cs → set cs k (min (get_or cs k 0 + 1) most_count) ≡ held (set cs k (get_or cs k 0 + 1))
unfolding held first_of rest_of
held-set [] k e = refl
held-set (n ∷ cs) zero e = ap (λ (xs : List ℕ). min (n + 1) most_count ∷ xs) (sym (ap rest_of e))
held-set (n ∷ cs) (suc k) e = ap₂ (λ (x : ℕ) (xs : List ℕ). x ∷ xs) (sym (ap first_of e)) (held-set cs k (ap rest_of e))

-- an answer's place, and none for a number that is none
pub place_some : (n k : ℕ) → Some k ≡ place_in n → (k ≡ place n) × (k < 12)
unfolding place_in
place_some n k e =
    let p = cond_some _ _ k (sym e) in
    let h : place n < 12 = ltb-true (place n) 12 p.0 in
    (sym p.1, rw p.1 at h)

pub place_none : (n : ℕ) → None ≡ place_in n → 12 ≤ place n
unfolding place_in
place_none n e = ltb-false (place n) 12 (ended_none _ (place n) e)

-- behind the last count
pub get_d-out : (cs : List ℕ) (k : ℕ) → length cs ≤ k → get_or cs k 0 ≡ 0
get_d-out [] k h = refl
get_d-out (n ∷ cs) zero h = absurd (omega arith)
get_d-out (n ∷ cs) (suc k) h = get_d-out cs k (omega arith)
