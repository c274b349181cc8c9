-- Lists of numbers and a limit. Assumes nothing.
use Rattle.std.specs.Prelude.{ℕ, Bool, false, ◌||◌, List, [], ◌∷◌, ltb}

-- one of the list is above the limit
unfoldable pub any_above : ℕ → List ℕ → Bool
any_above limit [] = false
any_above limit (x ∷ xs) = ltb limit x || any_above limit xs
