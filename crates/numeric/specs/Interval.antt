-- Intervals of f64 whose ends are floats. Assumes nothing.
use Rattle.std.specs.Prelude.{T, Float}
use Rattle.std.specs.Float.Ieee.Scale.{finite}
use Rattle.numeric.specs.F64.{◌≤ᶠ◌}

-- x is from lo to hi, which are finite: so it is finite too
pub record Within (lo hi x : Float) : Type 0 where
  pub least : T (finite lo)
  pub most : T (finite hi)
  pub low : T (lo ≤ᶠ x)
  pub high : T (x ≤ᶠ hi)
