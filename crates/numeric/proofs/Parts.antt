-- Parts of lists, as code lends them: laws that more than one crate cites. Assumes nothing.
use Rattle.std.proofs.Common.{◌≡◌, ℕ, zero, suc, ◌+◌, ◌-◌, ◌≤◌, min, List, [], ◌∷◌, ◌++◌, length, take, drop, ap, arith, length-append, length-drop, length-take-le, drop-drop}
use native.Mathlib.Nat.{zero-min, min-zero, suc-min-suc}
use lib.Seq.{take-append-add, drop-append-add, take-append_seam, drop-append_seam}

module _ {A : Type 0} where
  -- the next n of a list, or what is left of it
  pub take_min : (n : ℕ) (l : List A) → take (min n (length l)) l ≡ take n l
  take_min zero l = rw (zero-min (length l))
  take_min (suc n) [] = rw (min-zero (suc n))
  take_min (suc n) (x ∷ l) = rw (suc-min-suc n (length l)) (ap (λ (r : List A). x ∷ r) (take_min n l))

  pub drop_min : (n : ℕ) (l : List A) → drop (min n (length l)) l ≡ drop n l
  drop_min zero l = rw (zero-min (length l))
  drop_min (suc n) [] = rw (min-zero (suc n))
  drop_min (suc n) (x ∷ l) = rw (suc-min-suc n (length l)) (drop_min n l)

  module _ (l : List A) (from n e : ℕ) (is : e ≡ from + min n (length l - from)) where
    pub part-next : take (e - from) (drop from l) ≡ take n (drop from l)
    part-next =
        let k : e - from ≡ min n (length (drop from l)) = rw length-drop (omega arith) in
        rw k (take_min n (drop from l))

    pub part_left : drop e l ≡ drop n (drop from l)
    part_left = rw (is, ← length-drop, ← drop-drop) (drop_min n (drop from l))

  -- behind a list of `at` elements
  module _ (front l : List A) (at k : ℕ) (is : length front ≡ at) where
    pub take_behind : take (at + k) (front ++ l) ≡ front ++ take k l
    take_behind = rw (← is) (take-append-add front l k)

    pub drop-behind : drop (at + k) (front ++ l) ≡ drop k l
    drop-behind = rw (← is) (drop-append-add front l k)

  -- new elements behind the first `at` of a list
  module _ (l new behind : List A) (at : ℕ) (fits : at ≤ length l) where
    pub put_front : take (at + length new) (take at l ++ (new ++ behind)) ≡ take at l ++ new
    put_front = rw (take_behind (take at l) (new ++ behind) at (length new) (length-take-le at l fits), take-append_seam new behind)

    pub put-behind : drop (at + length new) (take at l ++ (new ++ behind)) ≡ behind
    put-behind = rw (drop-behind (take at l) (new ++ behind) at (length new) (length-take-le at l fits), drop-append_seam new behind)

    pub put-within : at + length new ≤ length (take at l ++ (new ++ behind))
    put-within = rw (length-append (take at l), length-take-le at l fits, length-append new) (omega arith)
