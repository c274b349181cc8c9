-- What the digit test finds as one number, for hosts in C. Assumes nothing.
use Rattle.std.specs.Prelude.{ℕ, List, length, Option, Some, None}
use Rattle.hexadecimal.specs.Hex.{first_wrong}

-- the place of the first wrong one; where all are digits, the place behind the last
abbrev pub place_in : List ℕ → Option ℕ → ℕ
place_in l None = length l
place_in l (Some p) = p

abbrev pub test_run : List ℕ → ℕ
test_run l = place_in l (first_wrong l)
