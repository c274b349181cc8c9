-- A list of samples through the filter, a part at a time and in place. Assumes nothing.
use Prim.Native.Nat.{ℕ, suc, ◌+◌, ◌<◌, ◌≤◌}
use mathlib.Core.Path.{◌≡◌, refl, sym, ap, ap₂, ◌∙◌}
use mathlib.Core.List.{List, [], ◌∷◌, ◌++◌}
use native.Mathlib.Numerals.{add-one}
use native.Mathlib.Omega.{arith}
use lib.ListN.{length, get_or, take, drop, length-append}
use lib.Seq.{sets, sets-eq, take_at, drop_at, take-add, take_all, drop-drop, drop-cons, length-take-le}
use lib.Ieee.{Float, nan}
use Rattle.resampling.specs.Filter.{filtered, newest, filtered_all, history_after}
use Rattle.resampling.specs.FilterRep.{ring_next, history_of, Placed, Filtered, AllFiltered}
use Rattle.resampling.proofs.Ring.{next-within}

-- the elements at i and after it
pub drop-two : (xs : List Float) (i : ℕ) → i + 1 < length xs → drop i xs ≡ get_or xs i nan ∷ get_or xs (i + 1) nan ∷ drop (i + 2) xs
drop-two xs i h =
    let k : suc (i + 1) ≡ i + 2 = omega arith in
    drop-cons xs i nan (omega arith) ∙ ap (λ (l : List Float). get_or xs i nan ∷ l) (ap (λ (j : ℕ). drop j xs) (sym (add-one i)) ∙ drop-cons xs (i + 1) nan h ∙ ap (λ (j : ℕ). get_or xs (i + 1) nan ∷ drop j xs) k)

-- ---- one list and then another
pub filtered-length : (taps h xs : List Float) → length (filtered_all taps h xs) ≡ length xs
unfolding filtered_all
filtered-length taps h [] = refl
filtered-length taps h (x ∷ xs) = ap suc (filtered-length taps (newest x h) xs)

pub filtered-append : (taps h xs ys : List Float) → filtered_all taps h (xs ++ ys) ≡ filtered_all taps h xs ++ filtered_all taps (history_after h xs) ys
unfolding filtered_all history_after
filtered-append taps h [] ys = refl
filtered-append taps h (x ∷ xs) ys = ap (λ (l : List Float). filtered taps (newest x h) ∷ l) (filtered-append taps (newest x h) xs ys)

pub after-append : (h xs ys : List Float) → history_after h (xs ++ ys) ≡ history_after (history_after h xs) ys
unfolding history_after
after-append h [] ys = refl
after-append h (x ∷ xs) ys = after-append (newest x h) xs ys

-- ---- over the code's ring
-- none
pub none-filtered : {n pos : ℕ} {taps ring : List Float} → Placed n pos taps ring → AllFiltered n pos pos taps [] ring ring []
unfolding filtered_all history_after
none-filtered p = record { history = refl; values = refl; placed = p }

-- one
pub one-filtered : {n pos : ℕ} {taps ring ring' : List Float} {x y : Float} → Placed n pos taps ring → Filtered n pos taps x ring ring' y
    → AllFiltered n pos (ring_next n pos) taps (x ∷ []) ring ring' (y ∷ [])
unfolding filtered_all history_after
one-filtered p f = record {
  history = f.history;
  values = ap (λ (z : Float). z ∷ []) f.value;
  placed = record { within = next-within _ _ p.within; high = p.high; taps_long = p.taps_long; ring_long = f.long };
}

-- all of s₀ did, and left s
pub all-filtered : {n pos p : ℕ} {taps ring ring' : List Float} (s₀ s : List Float) (i : ℕ) → AllFiltered n pos p taps (take i s₀) ring ring' (take i s)
    → length s ≤ i → length s₀ ≤ i → AllFiltered n pos p taps s₀ ring ring' s
all-filtered s₀ s i a h k = rw (take_all i s₀ k, take_all i s h) at a

module _ {n pos p q : ℕ} {taps ring ring' ring'' : List Float} where
  -- some, and then more
  pub more-filtered : {xs xs' ys ys' : List Float} → AllFiltered n pos p taps xs ring ring' ys → AllFiltered n p q taps xs' ring' ring'' ys'
      → AllFiltered n pos q taps (xs ++ xs') ring ring'' (ys ++ ys')
  more-filtered {xs} {xs'} a b =
      let h = history_of n pos ring in record {
        history = b.history ∙ ap (λ (g : List Float). history_after g xs') a.history ∙ sym (after-append h xs xs');
        values = ap₂ ◌++◌ a.values (b.values ∙ ap (λ (g : List Float). filtered_all (take n taps) g xs') a.history) ∙ sym (filtered-append (take n taps) h xs xs');
        placed = b.placed;
      }

  -- those of s₀ before i did, in place, which left s; now those from i on, xs, do, and what is behind stays
  pub filtered-turn : (s₀ s : List Float) (i : ℕ) {xs ys : List Float} → drop i s ≡ drop i s₀ → AllFiltered n pos p taps (take i s₀) ring ring' (take i s)
      → AllFiltered n p q taps xs ring' ring'' ys → drop i s ≡ xs ++ drop (i + length ys) s → length xs ≡ length ys → i + length ys ≤ length s
      → AllFiltered n pos q taps (take (i + length ys) s₀) ring ring'' (take (i + length ys) (sets s i ys)) × (drop (i + length ys) (sets s i ys) ≡ drop (i + length ys) s₀)
  filtered-turn s₀ s i {xs} {ys} same a b next e fits =
      let k : length (take i s ++ ys) ≡ i + length ys = length-append (take i s) ys ∙ ap (λ (j : ℕ). j + length ys) (length-take-le i s (omega arith)) in
      let g : take (length ys) (drop i s₀) ≡ xs = rw (← same, next) (take_at xs (drop (i + length ys) s) (length ys) e) in
      rw (sets-eq ys s i fits, take_at _ _ _ k, drop_at _ _ _ k, take-add i (length ys) s₀, g)
      (more-filtered a b, sym (drop-drop (length ys) i s) ∙ ap (drop (length ys)) same ∙ drop-drop (length ys) i s₀)
