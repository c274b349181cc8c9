-- The test of samples: sample by sample from place i on, which is what a loop over them needs; and what passes it is at most 1 in size. Assumes nothing.
use Rattle.std.proofs.Common.{◌≡◌, ℕ, ◌+◌, ◌<◌, ◌≤◌, Bool, true, false, not, ◌&&◌, T, List, [], ◌∷◌, length, get_or, drop, sym, refl, subst, true≢false, add-one, lit<, drop_of_length-le, drop-cons}
use lib.Ieee.{Float, nan, inf, fin, neg, le, lt, eq, of_bits}
use Rattle.numeric.specs.F64.{◌≤ᶠ◌, one64}
use Rattle.numeric.specs.Bounds.{Small, AllSmall}
use Rattle.numeric.specs.Convert.{in_range, all_in_range}
use Rattle.numeric.proofs.BoundLaws.{at-most-le}
use Rattle.numeric.proofs.Signed.{neg-le}
use Rattle.numeric.proofs.SizeLaws.{small-at-most, small-neg}

-- the samples from place i on, by what the test of the one there gave
pub range-fails : (r : Bool) (s : List Float) (i : ℕ) (d : Float) → i < length s → r ≡ in_range (get_or s i d) → not r ≡ true → all_in_range (drop i s) ≡ false
unfolding all_in_range
range-fails true s i d h e p = cc
range-fails false s i d h e p = rw (drop-cons s i d h, ← e)

pub range-passes : (r : Bool) (s : List Float) (i : ℕ) (d : Float) → i < length s → r ≡ in_range (get_or s i d) → not r ≡ false
    → all_in_range (drop i s) ≡ all_in_range (drop (i + 1) s)
unfolding all_in_range
range-passes true s i d h e p = rw (add-one, drop-cons s i d h, ← e)
range-passes false s i d h e p = cc

pub range-ends : (s : List Float) (i : ℕ) → length s ≤ i → all_in_range (drop i s) ≡ true
unfolding all_in_range
range-ends s i h = rw (drop_of_length-le s h)

-- ---- what passes
both : (a b : Bool) → a && b ≡ true → (a ≡ true) × (b ≡ true)
both true b e = (refl, e)
both false b e = absurd (true≢false (sym e))

holds : (a : Bool) → a ≡ true → T a
holds a e = subst T (sym e) tt

sized : (x : Float) → T (neg one64 ≤ᶠ x) → T (x ≤ᶠ one64) → Small 0 x
unfolding neg le lt eq of_bits
sized nan h k = absurd h
sized (inf true) h k = absurd h
sized (inf false) h k = absurd k
sized (fin false m e) h k = small-at-most (at-most-le (fin false m e) one64 1 1 (lit< tt) tt (refl, refl) k)
sized (fin true m e) h k =
    small-neg (fin false m e) (small-at-most (at-most-le (fin false m e) one64 1 1 (lit< tt) tt (refl, refl) (neg-le (neg one64) (fin true m e) h)))

pub in-range-small : (x : Float) → in_range x ≡ true → Small 0 x
unfolding in_range
in-range-small x e = let b = both (neg one64 ≤ᶠ x) (x ≤ᶠ one64) e in sized x (holds (neg one64 ≤ᶠ x) b.0) (holds (x ≤ᶠ one64) b.1)

pub all-in-range-small : (xs : List Float) → all_in_range xs ≡ true → AllSmall 0 xs
unfolding all_in_range
all-in-range-small [] e = tt
all-in-range-small (x ∷ xs) e = let b = both (in_range x) (all_in_range xs) e in (in-range-small x b.0, all-in-range-small xs b.1)
