-- Parts of lists, as the code lends them. Assumes nothing.
use Prim.Native.Nat.{ℕ, suc, ◌+◌, ◌-◌, ◌≤◌}
use mathlib.Core.Path.{◌≡◌, ap, ◌∙◌}
use mathlib.Core.List.{List, ◌∷◌, ◌++◌, append-nil, append_assoc}
use native.Mathlib.Omega.{arith}
use lib.ListN.{length, get_or, take, drop, length-drop, take-append-drop, drop_of_length-le}
use lib.Seq.{take-length, drop-append-le, drop-cons}

module _ {A : Type 0} where
  -- the whole rest of a list, and another in its place
  pub rest-is : (from : ℕ) (l : List A) → take (length l - from) (drop from l) ≡ drop from l
  rest-is from l = rw (← length-drop) (take-length (drop from l))

  pub rest_put : (from : ℕ) (l l' : List A) → from ≤ length l → take from l ++ (l' ++ drop (length l - from) (drop from l)) ≡ take from l ++ l'
  rest_put from l l' h =
      let z : length (drop from l) ≤ length l - from = rw length-drop (omega arith) in
      rw (drop_of_length-le (drop from l) z, append-nil)

  -- another list in the front of a part of m elements
  pub part-put : (front l : List A) (k m : ℕ) → k ≤ length (take m l) → front ++ drop k (take m l) ++ drop m l ≡ front ++ drop k l
  part-put front l k m h = rw (append_assoc front, ← drop-append-le k (take m l) (drop m l) h, take-append-drop m l)

  -- the next two elements
  pub next-two : (d : A) (l : List A) (at : ℕ) → at + 2 ≤ length l → drop at l ≡ get_or l at d ∷ get_or l (suc at) d ∷ drop (at + 2) l
  next-two d l at h =
      let z : at + 2 ≡ suc (suc at) = omega arith in
      rw z (drop-cons l at d (omega arith) ∙ ap (λ (r : List A). get_or l at d ∷ r) (drop-cons l (suc at) d (omega arith)))
