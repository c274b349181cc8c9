-- Three gauges, one level: what is shown of three readings, any of which may be missing. Assumes nothing.
use Rattle.std.specs.Prelude.{ℕ, ◌-◌, min, max, Bool, List, [], ◌∷◌, ◌++◌, ltb, ℤ}
use Rattle.std.specs.Int.Signed.{lt_z}
use Rattle.std.specs.Prelude.{if◌then◌else◌}
use Rattle.refusal.specs.Refusals.{Reply, given, refused}
use Rattle.tide.specs.Judge.{Reading, Shown, none, shows}

-- "three readings, any of which may be missing": what is there of one gauge
abbrev pub there : Shown → List Reading
there none = []
there (shows r) = r ∷ []

-- the readings that are there, in gauge order
abbrev pub readings : Shown → Shown → Shown → List Reading
readings a b c = there a ++ there b ++ there c

-- "the newest water minute"
unfoldable pub newest : List Reading → ℕ
newest [] = 0
newest (r ∷ rs) = max r.water (newest rs)

-- "more than 5 minutes older" than the minute n
abbrev pub too_old : ℕ → Reading → Bool
too_old n r = ltb 5 (n - r.water)

-- "drop readings more than 5 minutes older": the others stay, in gauge order
unfoldable pub kept_of : ℕ → List Reading → List Reading
kept_of n [] = []
kept_of n (r ∷ rs) = if too_old n r then kept_of n rs else r ∷ kept_of n rs

-- ".. than the newest"
abbrev pub kept : List Reading → List Reading
kept rs = kept_of (newest rs) rs

-- "The shown minute is the oldest of those kept": of the first of them, and the others
unfoldable pub oldest : Reading → List Reading → ℕ
oldest r [] = r.water
oldest r (s ∷ rs) = min r.water (oldest s rs)

-- "the lower" of two levels, and the higher
unfoldable pub lower : ℤ → ℤ → ℤ
lower x y = if lt_z y x then y else x

unfoldable pub higher : ℤ → ℤ → ℤ
higher x y = if lt_z y x then x else y

-- "the middle level" of three: the lower of the first two, or the lower of the other two, whichever is higher
unfoldable pub middle : ℤ → ℤ → ℤ → ℤ
middle x y z = higher (lower x y) (lower (higher x y) z)

-- "Of three, show the middle level; of two, the lower; of one, that one": of the first kept, and the others
unfoldable pub level_of : Reading → List Reading → ℤ
level_of r [] = r.level
level_of r (s ∷ []) = lower r.level s.level
level_of r (s ∷ t ∷ rs) = middle r.level s.level t.level

-- what is shown of the readings kept: minute and level
unfoldable pub shown_by : Reading → List Reading → Reading
shown_by r rs = record { water = oldest r rs; level = level_of r rs }

-- "46 when all three are missing"
unfoldable pub pooled : List Reading → Reply Reading
pooled [] = refused 46
pooled (r ∷ rs) = given (shown_by r rs)

-- "Pool three readings"
unfoldable pub pool_of : Shown → Shown → Shown → Reply Reading
pool_of a b c = pooled (kept (readings a b c))
