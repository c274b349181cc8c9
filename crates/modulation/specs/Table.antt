-- The table of the sender that has no floats: a whole turn of the sine in 1,600 places. Assumes nothing.
use Rattle.std.specs.Prelude.{ℕ, ◌+◌, ◌*◌, ◌-◌, ◌%◌, ◌≤◌, ◌<◌, ◌≡◌, Bool, true, false, List, ltb, leb, length, get_or, ℤ, pos, negsuc, neg_ℤ, Float}
use Rattle.numeric.specs.F64.{◌⊗◌, ◌⊘◌, ◌⊖◌, ◌≤ᶠ◌, f64, whole, tau, magnitude}
use Rattle.std.specs.Prelude.{if◌then◌else◌}
use Rattle.numeric.specs.Rounding.{round_usize}
use Rattle.numeric.specs.Sine.{sine_of}

-- "at 8,000 Hz a phase is one of 1,600 places"
abbrev pub places : ℕ
places = 1600

-- "32,767 times the sine of each place", by document 01's sine
unfoldable pub level_of : ℕ → Float
level_of k = whole 32767 ⊗ sine_of (tau ⊗ whole k ⊘ whole places)

-- "the nearest": half away from zero, of the places up to 400, a quarter of a turn
unfoldable pub height_of : ℕ → ℕ
height_of k = round_usize (level_of k)

-- the whole turn, by the quarter that a place is in: up, down again, and both below zero
unfoldable pub entry_of : ℕ → ℤ
entry_of k =
    if ltb k 400 then pos (height_of k)
    else if ltb k 800 then pos (height_of (800 - k))
    else if ltb k 1200 then neg_ℤ (pos (height_of (k - 800)))
    else neg_ℤ (pos (height_of (1600 - k)))

-- a list of the entries
pub record Turn (l : List ℤ) : Type 0 where
  pub long : length l ≡ places
  pub is : (k : ℕ) → k < places → get_or l k (pos 0) ≡ entry_of k

-- ---- what the request says of the table
-- a number's distance from 0
abbrev pub size : ℤ → ℕ
size (pos n) = n
size (negsuc n) = n + 1

abbrev pub squares : ℤ → ℤ → ℕ
squares a b = size a * size a + size b * size b

-- one number is at most another
abbrev pub at_most : ℤ → ℤ → Bool
at_most (pos a) (pos b) = leb a b
at_most (pos a) (negsuc b) = false
at_most (negsuc a) (pos b) = true
at_most (negsuc a) (negsuc b) = leb b a

-- 0.4991
abbrev pub margin : Float
margin = f64 0x3FDF_F141_205B_C01A

pub record TableRules : Type 0 where
  -- "entry k + 800 is minus entry k", "places taken modulo 1,600"
  pub opposite : (k : ℕ) → k < places → entry_of ((k + 800) % places) ≡ neg_ℤ (entry_of k)
  -- "entry 800 - k equals entry k (k up to 800)"
  pub mirror : (k : ℕ) → k ≤ 800 → entry_of (800 - k) ≡ entry_of k
  -- "the first 401 entries never fall"
  pub rises : (k : ℕ) → k < 400 → at_most (entry_of k) (entry_of (k + 1)) ≡ true
  -- "the squares of entries k and k + 400 add to within 46,342 of 32,767 squared"
  pub circle : (k : ℕ) → k < places
      → (squares (entry_of k) (entry_of ((k + 400) % places)) ≤ 32767 * 32767 + 46342) × (32767 * 32767 ≤ squares (entry_of k) (entry_of ((k + 400) % places)) + 46342)
  -- no entry of the first quarter is near a tie: it is within 0.4991 of what it is rounded from
  pub no_tie : (k : ℕ) → k ≤ 400 → magnitude (level_of k ⊖ whole (size (entry_of k))) ≤ᶠ margin ≡ true
  -- and so no entry is beyond 32,767
  pub within : (k : ℕ) → k < places → size (entry_of k) ≤ 32767
