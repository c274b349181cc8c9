-- Loops over a list, turn by turn: one that folds it, those that fill or change the front of an array; and a list read place by place.
-- Assumes nothing.
use Rattle.std.proofs.Common.{◌≡◌, ℕ, zero, suc, ◌+◌, ◌<◌, ◌≤◌, List, [], ◌∷◌, ◌++◌, map, length, get_or, take, drop, set, sym, refl, ap, ◌∙◌, ap₂, add-zero, le_of_lt, add-one, arith, drop_of_length-le, length-take-le, get_or-drop, drop-cons, take-suc, drop-drop, take-suc-set, drop-set-lt}
use lib.Seq.{set_at, append_snoc}
use Rattle.numeric.specs.Fold.{fold, tabulate}

module _ {A B : Type 0} where
  -- one turn of a fold
  pub fold_step : (f : B → A → B) (b : B) (l : List A) (i : ℕ) (d : A) → i < length l → fold f b (drop i l) ≡ fold f (f b (get_or l i d)) (drop (i + 1) l)
  fold_step f b l i d h = rw (add-one, drop-cons l i d h)

  -- the end of it
  pub fold_end : (f : B → A → B) (b : B) (l : List A) (i : ℕ) → length l ≤ i → fold f b (drop i l) ≡ b
  fold_end f b l i h = rw (drop_of_length-le l h)

module _ {A : Type 0} where
  map_snoc : (f : A → A) (xs : List A) (x : A) → map f (xs ++ (x ∷ [])) ≡ map f xs ++ (f x ∷ [])
  map_snoc f [] x = refl
  map_snoc f (y ∷ xs) x = ap (λ (l : List A). f y ∷ l) (map_snoc f xs x)

  -- one more element stored behind those that are right
  pub tabulate-turn : (f : ℕ → A) (xs : List A) (i : ℕ) → i < length xs → take i xs ≡ tabulate f i → take (i + 1) (set xs i (f i)) ≡ tabulate f (i + 1)
  tabulate-turn f xs i h e = rw (add-one, take-suc-set xs i (f i) h) (ap (λ (l : List A). l ++ (f i ∷ [])) e)

  -- one more element changed in place: `old` is what the array held at first
  pub map-turn : (f : A → A) (xs old : List A) (i : ℕ) (d : A) → i < length xs → i < length old → take i xs ≡ map f (take i old) → get_or xs i d ≡ get_or old i d
      → take (i + 1) (set xs i (f (get_or xs i d))) ≡ map f (take (i + 1) old)
  map-turn f xs old i d h k e g =
      rw (add-one, take-suc-set xs i (f (get_or xs i d)) h, take-suc old i d k)
      (ap₂ (λ (l : List A) (x : A). l ++ (f x ∷ [])) e g ∙ sym (map_snoc f (take i old) (get_or old i d)))

  -- what is behind stays
  pub rest-turn : (xs old : List A) (i : ℕ) (x : A) → drop i xs ≡ drop i old → drop (i + 1) (set xs i x) ≡ drop (i + 1) old
  rest-turn xs old i x e = rw (drop-set-lt (i + 1) xs i x (omega arith)) (sym (drop-drop 1 i xs) ∙ ap (λ (l : List A). drop 1 l) e ∙ drop-drop 1 i old)

  pub rest-first : (xs old : List A) (i : ℕ) (d : A) → drop i xs ≡ drop i old → get_or xs i d ≡ get_or old i d
  rest-first xs old i d e = sym (first xs) ∙ ap (λ (l : List A). get_or l 0 d) e ∙ first old
    where
      first : (l : List A) → get_or (drop i l) 0 d ≡ get_or l i d
      first l = get_or-drop i l 0 d ∙ ap (λ (k : ℕ). get_or l k d) (add-zero i)

  -- one more element copied from the front of another list
  pub over-turn : (s o : List A) (i : ℕ) (d : A) → i < length s → i < length o
      → set (take i s ++ drop i o) i (get_or s i d) ≡ take (i + 1) s ++ drop (i + 1) o
  over-turn s o i d hs ho =
      let n : length (take i s) ≡ i = length-take-le i s (le_of_lt hs) in
      rw (add-one, take-suc s i d, drop-cons o i d, set_at, append_snoc)

  -- n elements from place k on, each read by its place
  abbrev pub places : ℕ → ℕ → List A → A → List A
  places zero k l d = []
  places (suc n) k l d = get_or l k d ∷ places n (suc k) l d

  places-from : (n k : ℕ) (l : List A) (d : A) → length l ≡ k + n → drop k l ≡ places n k l d
  places-from zero k l d h = drop_of_length-le l {i = k} (omega arith)
  places-from (suc n) k l d h = drop-cons l k d (omega arith) ∙ ap (λ (r : List A). get_or l k d ∷ r) (places-from n (suc k) l d (omega arith))

  -- a list of n elements, read by place
  pub listed : (n : ℕ) (l : List A) (d : A) → length l ≡ n → l ≡ places n 0 l d
  listed n l d h = places-from n 0 l d (omega arith)
