-- How the code holds the filter's history, in a ring, and the window. Assumes nothing.
use Rattle.std.specs.Prelude.{ℕ, zero, suc, ◌+◌, ◌-◌, ◌≤◌, ◌<◌, ◌≡◌, List, [], ◌∷◌, length, get_or, take, leb, eqb, Float}
use Rattle.std.specs.Float.{nan}
use Rattle.std.specs.Prelude.{if◌then◌else◌}
use Rattle.resampling.specs.Design.{most_taps}
use Rattle.resampling.specs.Filter.{Window, filtered, newest, filtered_all, history_after}
use Rattle.resampling.specs.declared.filter.Two.{Two}

-- the place before idx in a ring of n, and the one after pos
unfoldable pub ring_back : ℕ → ℕ → ℕ
ring_back n idx = if eqb idx 0 then n - 1 else idx - 1

unfoldable pub ring_next : ℕ → ℕ → ℕ
ring_next n pos = if leb n (pos + 1) then 0 else pos + 1

-- k samples of a ring of n, from idx backwards
unfoldable pub walk : ℕ → ℕ → ℕ → List Float → List Float
walk zero n idx ring = []
walk (suc k) n idx ring = get_or ring idx nan ∷ walk k n (ring_back n idx) ring

-- the ring as a list, newest first, where the next sample goes to pos
unfoldable pub history_of : ℕ → ℕ → List Float → List Float
history_of n pos ring = walk n n (ring_back n pos) ring

abbrev pub window_of : List Float → Window
window_of w = record { y0 = get_or w 0 nan; y1 = get_or w 1 nan; y2 = get_or w 2 nan; y3 = get_or w 3 nan }

-- a place of the ring, and the arrays' lengths
pub record Placed (n pos : ℕ) (taps ring : List Float) : Type 0 where
  pub within : pos < n
  pub high : n ≤ most_taps
  pub taps_long : length taps ≡ most_taps
  pub ring_long : length ring ≡ most_taps

-- a sample x went into the ring at pos and through the filter, which gave y
pub record Filtered (n pos : ℕ) (taps : List Float) (x : Float) (ring ring' : List Float) (y : Float) : Type 0 where
  pub history : history_of n (ring_next n pos) ring' ≡ newest x (history_of n pos ring)
  pub value : y ≡ filtered (take n taps) (newest x (history_of n pos ring))
  pub long : length ring' ≡ most_taps

-- samples xs went into the ring from pos on and through the filter, which gave ys; the next goes to pos'
pub record AllFiltered (n pos pos' : ℕ) (taps xs ring ring' ys : List Float) : Type 0 where
  pub history : history_of n pos' ring' ≡ history_after (history_of n pos ring) xs
  pub values : ys ≡ filtered_all (take n taps) (history_of n pos ring) xs
  pub placed : Placed n pos' taps ring'

-- x and then `later` went into the ring from pos on and through the filter, which gave the two of y
abbrev pub TwoFiltered : ℕ → ℕ → List Float → Float → Float → List Float → List Float → Two → Type 0
TwoFiltered n pos taps x later ring ring' y =
    AllFiltered n pos (ring_next n (ring_next n pos)) taps (x ∷ later ∷ []) ring ring' (y.first ∷ y.second ∷ [])
