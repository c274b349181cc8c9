-- Bounds on floats, as fractions: of those with no minus sign, and of the size of either. Assumes nothing.
use Rattle.std.specs.Prelude.{ℕ, ◌*◌, ◌^◌, ◌≤◌, Bool, false, not, T, List, [], ◌∷◌, Float}
use Rattle.std.specs.Float.{nan, inf, fin}
use Rattle.std.specs.Float.Ieee.Positive.{num, den}
use Rattle.std.specs.Float.Ieee.Scale.{finite}

-- finite, with no minus sign: its value is num x / den x
abbrev pub non_negative : Float → Bool
non_negative nan = false
non_negative (inf s) = false
non_negative (fin s m e) = not s

-- at most q / c, and at least q / c
pub record AtMost (x : Float) (q c : ℕ) : Type 0 where
  pub is : T (non_negative x)
  pub under : num x * c ≤ q * den x

pub record AtLeast (x : Float) (q c : ℕ) : Type 0 where
  pub is : T (non_negative x)
  pub over : q * den x ≤ num x * c

-- finite, of either sign, and at most 2 ^ n in size
pub record Small (n : ℕ) (x : Float) : Type 0 where
  pub is : T (finite x)
  pub under : num x ≤ 2 ^ n * den x

-- each of a list is
abbrev pub AllSmall : ℕ → List Float → Type 0
AllSmall n [] = Unit
AllSmall n (x ∷ xs) = Small n x × AllSmall n xs
