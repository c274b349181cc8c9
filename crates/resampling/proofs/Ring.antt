-- A ring read as a list, newest sample first: what one more sample does to it, and the filter's sum over it. Assumes nothing.
use mathlib.Core.Logic.{⊎_elim}
use Prim.Native.Nat.{ℕ, zero, suc, ◌+◌, ◌-◌, ◌<◌, ◌≤◌}
use mathlib.Core.Path.{◌≡◌, refl, sym, ap, ap₂, ◌∙◌}
use mathlib.Core.List.{List, [], ◌∷◌}
use native.Mathlib.Nat.{eq-or-lt_of_le}
use native.Mathlib.Numerals.{add-one}
use native.Mathlib.Omega.{arith}
use borrow.Author.Tests.{lt-leb, le-leb}
use lib.Dec.{leb, eqb-suc-zero}
use lib.ListN.{length, get_or, set, take, drop, replicate, get_or-replicate, length-set, drop_of_length-le}
use lib.Seq.{get_or-set_same, get_or-set_other, get_or-take, drop-cons, length-take-le}
use lib.Ieee.{Float, nan}
use Rattle.numeric.specs.F64.{◌⊕◌, ◌⊗◌, zero64}
use Rattle.std.specs.Prelude.{if◌then◌else◌}
use Rattle.resampling.specs.Filter.{sum_from, filtered, newest}
use Rattle.resampling.specs.FilterRep.{ring_back, ring_next, walk, history_of, Placed, Filtered}

-- ---- places
back-suc : (n i : ℕ) → ring_back n (suc i) ≡ i
unfolding ring_back
back-suc n i = rw (eqb-suc-zero i) (less i)
  where
    less : (i : ℕ) → suc i - 1 ≡ i
    less i = omega arith

back-zero : (n : ℕ) → ring_back n 0 ≡ n - 1
unfolding ring_back
back-zero n = refl

pub back-next : (n pos : ℕ) → pos < n → ring_back n (ring_next n pos) ≡ pos
unfolding ring_next
back-next n pos h = ⊎_elim at-end on (eq-or-lt_of_le h)
  where
    last : (n pos : ℕ) → suc pos ≡ n → n - 1 ≡ pos
    last n pos e = omega arith

    at-end : suc pos ≡ n → ring_back n (if leb n (pos + 1) then 0 else pos + 1) ≡ pos
    at-end e = rw (le-leb n (pos + 1) (omega arith)) (back-zero n ∙ last n pos e)

    on : suc pos < n → ring_back n (if leb n (pos + 1) then 0 else pos + 1) ≡ pos
    on l = rw (lt-leb n (pos + 1) (omega arith)) (ap (ring_back n) (add-one pos) ∙ back-suc n pos)

pub next-within : (n pos : ℕ) → pos < n → ring_next n pos < n
unfolding ring_next
next-within n pos h = ⊎_elim (λ e. rw (le-leb n (pos + 1) (omega arith)) (omega arith)) (λ l. rw (lt-leb n (pos + 1) (omega arith)) (omega arith)) (eq-or-lt_of_le h)

-- the history reads back from the place before the next one's
pub history-next : (n pos : ℕ) (ring : List Float) → pos < n → history_of n (ring_next n pos) ring ≡ walk n n pos ring
unfolding history_of
history-next n pos ring h = rw (back-next n pos h)

-- ---- a stored sample
module _ (n pos : ℕ) (x : Float) (ring : List Float) where
  -- the places from idx back stay above pos
  same-below : (j idx : ℕ) → j + pos ≤ idx → walk j n idx (set ring pos x) ≡ walk j n idx ring
  unfolding walk
  same-below zero idx h = refl
  same-below (suc j) zero h = absurd (omega arith)
  same-below (suc j) (suc i) h =
      rw (back-suc n i, get_or-set_other ring pos (suc i) x nan (λ e. omega arith), same-below j i (omega arith))

  -- the places from idx, below pos, go back over the ring's end
  same_over : (j idx : ℕ) → idx < pos → j + pos ≤ idx + n → walk j n idx (set ring pos x) ≡ walk j n idx ring
  unfolding walk
  same_over zero idx l h = refl
  same_over (suc j) zero l h =
      rw (back-zero n, get_or-set_other ring pos zero x nan (λ e. omega arith), same-below j (n - 1) (omega arith))
  same_over (suc j) (suc i) l h =
      rw (back-suc n i, get_or-set_other ring pos (suc i) x nan (λ e. omega arith), same_over j i (omega arith) (omega arith))

walk-length : (k n idx : ℕ) (ring : List Float) → length (walk k n idx ring) ≡ k
unfolding walk
walk-length zero n idx ring = refl
walk-length (suc k) n idx ring = ap suc (walk-length k n (ring_back n idx) ring)

pub history-length : (n pos : ℕ) (ring : List Float) → length (history_of n pos ring) ≡ n
unfolding history_of
history-length n pos ring = walk-length n n (ring_back n pos) ring

walk-take : (k n idx : ℕ) (ring : List Float) → take k (walk (suc k) n idx ring) ≡ walk k n idx ring
unfolding walk
walk-take zero n idx ring = refl
walk-take (suc k) n idx ring = ap (λ (l : List Float). get_or ring idx nan ∷ l) (walk-take k n (ring_back n idx) ring)

newest-walk : (k n idx : ℕ) (x : Float) (ring : List Float) → newest x (walk (suc k) n idx ring) ≡ x ∷ walk k n idx ring
unfolding newest
newest-walk k n idx x ring = rw (walk-length (suc k) n idx ring) (ap (λ (l : List Float). x ∷ l) (walk-take k n idx ring))

walk-suc : (k n idx : ℕ) (ring : List Float) → walk (suc k) n idx ring ≡ get_or ring idx nan ∷ walk k n (ring_back n idx) ring
unfolding walk
walk-suc k n idx ring = refl

-- a sample stored at pos is the newest, and the oldest is gone
pub walk-newest : (n pos : ℕ) (x : Float) (ring : List Float) → pos < n → n ≤ length ring
    → walk n n pos (set ring pos x) ≡ newest x (walk n n (ring_back n pos) ring)
walk-newest zero pos x ring h l = absurd (omega arith)
walk-newest (suc k) pos x ring h l =
    let n = suc k in
    walk-suc k n pos (set ring pos x) ∙ ap₂ ◌∷◌ (get_or-set_same ring pos x nan (omega arith)) (rest pos h) ∙ sym (newest-walk k n (ring_back n pos) x ring)
  where
    rest : (p : ℕ) → p < suc k → walk k (suc k) (ring_back (suc k) p) (set ring p x) ≡ walk k (suc k) (ring_back (suc k) p) ring
    rest zero h = rw (back-zero (suc k)) (same-below (suc k) zero x ring k (suc k - 1) (omega arith))
    rest (suc p) h = rw (back-suc (suc k) p) (same_over (suc k) (suc p) x ring k p (omega arith) (omega arith))

-- the same of the history: the next sample will go to the place after pos
module _ (n pos : ℕ) (x : Float) (ring : List Float) (h : pos < n) (l : n ≤ length ring) where
  pub walk-stored : walk n n pos (set ring pos x) ≡ newest x (history_of n pos ring)
  unfolding history_of
  walk-stored = walk-newest n pos x ring h l

  pub history-stored : history_of n (ring_next n pos) (set ring pos x) ≡ newest x (history_of n pos ring)
  history-stored = history-next n pos (set ring pos x) h ∙ walk-stored

-- one sample went in and through the filter
pub went-in : (n pos : ℕ) (taps ring : List Float) (x y : Float) → Placed n pos taps ring → y ≡ filtered (take n taps) (walk n n pos (set ring pos x))
    → Filtered n pos taps x ring (set ring pos x) y
went-in n pos taps ring x y p e =
    let l : n ≤ length ring = omega (arith, p.high, p.ring_long) in
    record {
      history = history-stored n pos x ring p.within l;
      value = e ∙ ap (filtered (take n taps)) (walk-stored n pos x ring p.within l);
      long = length-set ring pos x ∙ p.ring_long;
    }

-- one more after it, whose sum was taken over what the ring held before
pub went-after : (n pos : ℕ) (taps ring : List Float) (x y : Float) → pos < n → Placed n (ring_next n pos) taps ring
    → y ≡ filtered (take n taps) (newest x (walk n n pos ring)) → Filtered n (ring_next n pos) taps x ring (set ring (ring_next n pos) x) y
went-after n pos taps ring x y h p e =
    let l : n ≤ length ring = omega (arith, p.high, p.ring_long) in
    let g = walk-stored n (ring_next n pos) x ring p.within l ∙ ap (newest x) (history-next n pos ring h) in
    went-in n (ring_next n pos) taps ring x y p (e ∙ ap (filtered (take n taps)) (sym g))

-- ---- an empty ring
back-within : (n idx : ℕ) → idx < n → ring_back n idx < n
back-within n zero h = rw (back-zero n) (omega arith)
back-within n (suc i) h = rw (back-suc n i) (omega arith)

walk_same : (x : Float) (k n idx all : ℕ) → idx < n → n ≤ all → walk k n idx (replicate all x) ≡ replicate k x
unfolding walk
walk_same x zero n idx all h l = refl
walk_same x (suc k) n idx all h l =
    ap₂ ◌∷◌ (get_or-replicate all idx x nan (omega arith)) (walk_same x k n (ring_back n idx) all (back-within n idx h) l)

pub history-same : (x : Float) (n all : ℕ) → n ≤ all → history_of n 0 (replicate all x) ≡ replicate n x
unfolding history_of walk
history-same x zero all l = refl
history-same x (suc k) all l = walk_same x (suc k) (suc k) (ring_back (suc k) 0) all (back-within (suc k) 0 (omega arith)) l

-- ---- the filter's sum, tap by tap
module _ (taps ring : List Float) (n i idx : ℕ) (acc : Float) (fits : n ≤ length taps) where
  pub sum-turn : i < n
      → sum_from acc (drop i (take n taps)) (walk (n - i) n idx ring)
      ≡ sum_from (acc ⊕ get_or taps i nan ⊗ get_or ring idx nan) (drop (i + 1) (take n taps)) (walk (n - (i + 1)) n (ring_back n idx) ring)
  unfolding sum_from walk
  sum-turn h =
      let e : n - i ≡ suc (n - (i + 1)) = omega arith in
      let l : length (take n taps) ≡ n = length-take-le n taps fits in
      rw (e, drop-cons (take n taps) i nan (omega arith), get_or-take n taps i nan h, add-one)

  pub sum_done : n ≤ i → sum_from acc (drop i (take n taps)) (walk (n - i) n idx ring) ≡ acc
  unfolding sum_from
  sum_done h =
      let l : length (take n taps) ≡ n = length-take-le n taps fits in
      rw (drop_of_length-le (take n taps) {i = i} (omega arith))

-- the sum with one sample more than the ring has: its first term is that sample's
pub sum-later : (taps ring : List Float) (n pos : ℕ) (x : Float) → n ≤ length taps → 0 < n
    → sum_from (zero64 ⊕ get_or taps 0 nan ⊗ x) (drop (0 + 1) (take n taps)) (walk (n - (0 + 1)) n pos ring) ≡ filtered (take n taps) (newest x (walk n n pos ring))
unfolding filtered sum_from
sum-later taps ring zero pos x l h = absurd (omega arith)
sum-later [] ring (suc k) pos x l h = absurd (omega arith)
sum-later (t ∷ ts) ring (suc k) pos x l h = rw (newest-walk k (suc k) pos x ring, less k) refl
  where
    less : (k : ℕ) → suc k - (0 + 1) ≡ k
    less k = omega arith
