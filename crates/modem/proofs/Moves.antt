-- A loop that moves a part of a list to its own front. Assumes nothing.
use Prim.Native.Nat.{ℕ, zero, suc, ◌+◌, ◌-◌, ◌<◌, ◌≤◌}
use mathlib.Core.Path.{◌≡◌, refl, sym, ap, subst, ◌∙◌}
use mathlib.Core.List.{List, [], ◌∷◌}
use native.Mathlib.Numerals.{add-one, unary_clauses}
use native.Mathlib.Nat.{add_comm, zero-sub}
use native.Mathlib.Omega.{arith}
use lib.ListN.{length, get_or, take, drop, set, length-set, length-drop}
use lib.Seq.{take-suc, take-suc-set, drop-set-lt, drop-drop, take-nil, get_or-drop, take-take}
use Rattle.modem.specs.Queue.{Moved}

module _ {A : Type 0} where
  -- i of the elements from place k on stand at the front, and from place i on nothing has moved
  pub record Moving (k i : ℕ) (before now : List A) : Type 0 where
    pub moved : Moved k i before now
    pub back : drop i now ≡ drop i before

  pub move_start : (k : ℕ) (l : List A) → Moving k 0 l l
  move_start k l = record { moved = record { front = refl; places = refl }; back = refl }

  -- what is to move next is what stood there before
  not-moved : (k i : ℕ) (before now : List A) (d : A) → Moving k i before now → get_or now (i + k) d ≡ get_or (drop k before) i d
  not-moved k i before now d s =
      sym (get_or-drop i now k d) ∙ ap (λ (l : List A). get_or l k d) s.back ∙ get_or-drop i before k d
      ∙ ap (λ (n : ℕ). get_or before n d) (add_comm i k) ∙ sym (get_or-drop k before i d)

  -- one turn of the move
  pub move-turn : (k i : ℕ) (before now : List A) (d : A) → Moving k i before now → i + k < length before
      → Moving k (i + 1) before (set now i (get_or now (i + k) d))
  move-turn k i before now d s h =
      let inside : i < length (drop k before) = simp length-drop (omega arith) in
      let there : i < length now = omega (arith, s.moved.places) in
      record {
        moved =
            record {
              front = rw (add-one, take-suc-set now i (get_or now (i + k) d) there, s.moved.front, not-moved k i before now d s, take-suc (drop k before) i d inside);
              places = rw length-set s.moved.places;
            };
        back = rw (drop-set-lt (i + 1) now i (get_or now (i + k) d) (omega arith), ← drop-drop 1 i now, ← drop-drop 1 i before, s.back);
      }

  -- the end of it
  pub move-end : {k i m : ℕ} {before now : List A} → Moving k i before now → i ≡ m → Moved k m before now
  move-end {k} {i} {m} {before} {now} s e = subst (λ (n : ℕ). Moved k n before now) e s.moved

  -- the first n without the first k
  drop-take : (k n : ℕ) (l : List A) → drop k (take n l) ≡ take (n - k) (drop k l)
  drop-take zero n l = simp unary_clauses
  drop-take (suc k) zero l = rw (zero-sub (suc k))
  drop-take (suc k) (suc n) [] = sym (take-nil (suc n - suc k))
  drop-take (suc k) (suc n) (x ∷ xs) = simp unary_clauses (drop-take k n xs)

  -- after the move they stand at the front
  pub moved-rest : (k m n : ℕ) (before after : List A) → Moved k m before after → n - k ≤ m → take (n - k) after ≡ drop k (take n before)
  moved-rest k m n before after s h =
      sym (take-take (n - k) m after h) ∙ ap (take (n - k)) s.front ∙ take-take (n - k) m (drop k before) h
      ∙ sym (drop-take k n before)
