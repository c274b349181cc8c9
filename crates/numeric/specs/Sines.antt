-- Document 01's sine with each of its tests made before the series, so that series can go side by side. Assumes nothing.
use Rattle.std.specs.Prelude.{◌≡◌, Bool, ◌||◌, Float}
use Rattle.std.specs.Float.Ieee.{neg}
use Rattle.numeric.specs.F64.{◌⊖◌, ◌<ᶠ◌, ◌≤ᶠ◌, zero64, tau, pi}
use Rattle.std.specs.Prelude.{if◌then◌else◌}
use Rattle.numeric.specs.Sine.{folded, series}
use Rattle.numeric.specs.declared.sines.Eight.{Eight}

-- "subtract TAU while x ≥ TAU", once
unfoldable pub wrapped : Float → Float
wrapped x = if tau ≤ᶠ x then x ⊖ tau else x

-- "if x ≥ PI subtract PI"
unfoldable pub lowered : Float → Float
lowered x = if pi ≤ᶠ x then x ⊖ pi else x

-- ".. and flip the sign"
unfoldable pub signed : Float → Float → Float
signed x v = if pi ≤ᶠ x then neg v else v

-- x is below 0.0, or y, which is x wrapped, is still a turn or more
unfoldable pub beyond : Float → Float → Bool
beyond x y = (x <ᶠ zero64) || (tau ≤ᶠ y)

-- the sine of x within one turn
abbrev pub within_turn : Float → Float
within_turn x = signed x (series (folded (lowered x)))

-- what f gives for each of four
pub record EachOf (f : Float → Float) (x y z w a b c d : Float) : Type 0 where
  pub first : a ≡ f x
  pub second : b ≡ f y
  pub third : c ≡ f z
  pub fourth : d ≡ f w

-- .. and of eight
abbrev pub EightOf : (Float → Float) → Float → Float → Float → Float → Float → Float → Float → Float → Eight → Type 0
EightOf f a b c d x y z w r = EachOf f a b c d r.first r.second r.third r.fourth × EachOf f x y z w r.fifth r.sixth r.seventh r.eighth
