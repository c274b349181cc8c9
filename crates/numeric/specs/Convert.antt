-- Between f32 and f64. One type of floats serves both: an f32 taken as an f64 is the same number ("widening exact"), so `widen` needs no
-- definition. Assumes nothing.
use Rattle.std.specs.Prelude.{◌*◌, Bool, true, ◌&&◌, List, [], ◌∷◌, Float}
use Rattle.std.specs.Float.{nan, inf, fin, binary32}
use Rattle.std.specs.Float.Ieee.{up, down, round, neg}
use Rattle.numeric.specs.F64.{◌≤ᶠ◌, one64}

-- "narrowing to nearest, ties to even": the number itself, rounded once to an f32. From halfway between the largest f32 and 2 ^ 128 on
-- that is an infinity. A NaN stays a NaN.
unfoldable pub narrowed : Float → Float
narrowed nan = nan
narrowed (inf s) = inf s
narrowed (fin s m e) = round binary32 s (m * up e) (down e)

-- not refused with 4, or by the bare resampler with 43: "a sample not finite or beyond ±1". A NaN fails both tests, an infinity one.
unfoldable pub in_range : Float → Bool
in_range x = neg one64 ≤ᶠ x && x ≤ᶠ one64

unfoldable pub all_in_range : List Float → Bool
all_in_range [] = true
all_in_range (x ∷ xs) = in_range x && all_in_range xs
