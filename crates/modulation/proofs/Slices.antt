-- Loops that fill a slice from another, turn by turn; and parts of lists. Assumes nothing.
use Prim.Native.Nat.{ℕ, zero, suc, ◌+◌, ◌-◌, ◌<◌, ◌≤◌, min}
use mathlib.Core.Path.{◌≡◌, refl, sym, ap, ◌∙◌}
use mathlib.Core.Bool.{Bool, true, false}
use mathlib.Core.List.{List, [], ◌∷◌, ◌++◌, map, append_assoc}
use mathlib.Core.Logic.{◌⊎◌, inl, inr, ⊎_elim}
use native.Mathlib.Nat.{le_of_lt}
use native.Mathlib.Numerals.{add-one}
use native.Mathlib.Omega.{arith}
use lib.Dec.{ltb}
use lib.ListN.{length, get_or, set, take, drop, length-set, length-take, length-drop, length-append, drop_of_length-le}
use lib.Seq.{take-suc-set, take_all, take-length, drop-length, drop-cons}
use borrow.Author.Tests.{ltb-true, ltb-false}

-- ---- a slice filled from another, each element by f
module _ {A B : Type 0} where
  pub into-turn : (f : A → B) (xs : List A) (out : List B) (i : ℕ) (d : A) (v : B) → i < length xs → i < length out → v ≡ f (get_or xs i d)
      → take (i + 1) (set out i v) ++ map f (drop (i + 1) xs) ≡ take i out ++ map f (drop i xs)
  into-turn f xs out i d v h l e = rw (add-one, take-suc-set out i v l, drop-cons xs i d h, append_assoc, e)

  -- four turns
  pub into-four : (f : A → B) (xs : List A) (out : List B) (i : ℕ) (d : A) (a b c e : B) → length xs ≡ length out → i + 3 < length out
      → a ≡ f (get_or xs i d) → b ≡ f (get_or xs (i + 1) d) → c ≡ f (get_or xs (i + 2) d) → e ≡ f (get_or xs (i + 3) d)
      → take (i + 4) (set (set (set (set out i a) (i + 1) b) (i + 2) c) (i + 3) e) ++ map f (drop (i + 4) xs) ≡ take i out ++ map f (drop i xs)
  into-four f xs out i d a b c e l h p q r s =
      let z : i + 4 ≡ i + 3 + 1 = omega arith in
      let y : i + 3 ≡ i + 2 + 1 = omega arith in
      let x : i + 2 ≡ i + 1 + 1 = omega arith in
      let o = set out i a in
      let u = set o (i + 1) b in
      let v = set u (i + 2) c in
      let lo = length-set out i a in
      let lu = length-set o (i + 1) b ∙ lo in
      let lv = length-set u (i + 2) c ∙ lu in
      ap (λ (n : ℕ). take n (set v (i + 3) e) ++ map f (drop n xs)) z
      ∙ into-turn f xs v (i + 3) d e (omega (arith, l)) (omega (arith, lv)) s
      ∙ ap (λ (n : ℕ). take n v ++ map f (drop n xs)) y
      ∙ into-turn f xs u (i + 2) d c (omega (arith, l)) (omega (arith, lu)) r
      ∙ ap (λ (n : ℕ). take n u ++ map f (drop n xs)) x
      ∙ into-turn f xs o (i + 1) d b (omega (arith, l)) (omega (arith, lo)) q
      ∙ into-turn f xs out i d a (omega (arith, l)) (omega arith) p

split : (a b : ℕ) → (a ≤ b) ⊎ (b ≤ a)
split a b = go (ltb a b) refl
  where
    go : (t : Bool) → ltb a b ≡ t → (a ≤ b) ⊎ (b ≤ a)
    go true e = inl (le_of_lt (ltb-true a b e))
    go false e = inr (ltb-false a b e)

-- ---- as many as there are
module _ {A : Type 0} where
  pub take-least : (n c : ℕ) (l : List A) → c ≡ min n (length l) → take n l ≡ take c l
  take-least n c l e =
      ⊎_elim (λ h. let z : c ≡ n = omega arith in rw z)
      (λ h. let z : c ≡ length l = omega arith in rw (z, take_all n l h, take-length l)) (split n (length l))

  pub drop-least : (n c : ℕ) (l : List A) → c ≡ min n (length l) → drop n l ≡ drop c l
  drop-least n c l e =
      ⊎_elim (λ h. let z : c ≡ n = omega arith in rw z)
      (λ h. let z : c ≡ length l = omega arith in rw (z, drop_of_length-le l {i = n} h, drop-length l)) (split n (length l))

  -- the part from i to the end
  pub take_rest : (i : ℕ) (l : List A) → take (length l - i) (drop i l) ≡ drop i l
  take_rest i l = rw (← length-drop) (take-length (drop i l))

  pub drop-take : (c k : ℕ) (l : List A) → drop c (take k l) ≡ take (k - c) (drop c l)
  drop-take zero k l = let z : k - 0 ≡ k = omega arith in rw z
  drop-take (suc c) zero l = let z : 0 - suc c ≡ 0 = omega arith in rw z
  drop-take (suc c) (suc k) [] = sym (none (suc k - suc c))
    where
      none : (n : ℕ) → ◌≡◌ {A = List A} (take n []) []
      none zero = refl
      none (suc n) = refl
  drop-take (suc c) (suc k) (x ∷ l) = let z : suc k - suc c ≡ k - c = omega arith in drop-take c k l ∙ rw z

-- ---- the unwritten rest of a slice
pub lent_length : {A : Type 0} (out : List A) (written l : ℕ) → length out ≡ l → length (take (length out - written) (drop written out)) ≡ l - written
lent_length out written l h = simp (length-take, length-drop) (omega arith)

-- it comes back as long as it was lent
pub rest-length : {A : Type 0} (out rest : List A) (written l : ℕ) → length out ≡ l → written ≤ l → length (take written out ++ (rest ++ drop (length out - written) (drop written out))) ≡ l
    → length rest ≡ l - written
rest-length out rest written l e h g = let u = simp (length-append, length-take, length-drop) at g in omega (arith, u)
