-- Places in a text. Assumes nothing.
use Prim.Native.Nat.{ℕ, suc, ◌+◌, ◌<◌, ◌≤◌}
use mathlib.Core.Path.{◌≡◌, refl}
use mathlib.Core.List.{List, ◌∷◌}
use native.Mathlib.Numerals.{add-one}
use borrow.Author.Tests.{eq-eqb, ne_eqb}
use lib.ListN.{length, get_or, drop, drop_of_length-le}
use lib.Seq.{drop-cons}
use Rattle.pool.specs.Fields.{place_of}

-- ---- the place of a byte, from place i on
module _ (c : ℕ) (s : List ℕ) (i : ℕ) where
  cons : i < length s → drop i s ≡ get_or s i 0 ∷ drop (i + 1) s
  cons h = rw (add-one i) (drop-cons s i 0 h)

  pub place_found : i < length s → get_or s i 0 ≡ c → place_of c (drop i s) ≡ 0
  unfolding place_of
  place_found h e = rw (cons h, eq-eqb (get_or s i 0) c e) refl

  pub place-on : i < length s → (get_or s i 0 ≡ c → ⊥) → place_of c (drop i s) ≡ suc (place_of c (drop (i + 1) s))
  unfolding place_of
  place-on h e = rw (cons h, ne_eqb (get_or s i 0) c e) refl

  pub place_end : length s ≤ i → place_of c (drop i s) ≡ 0
  unfolding place_of
  place_end h = rw (drop_of_length-le s h) refl
