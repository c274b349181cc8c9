-- The fields of a line: numbers as the programs print them, so that no number is written in two ways. Assumes nothing.
use Rattle.std.specs.Prelude.{ℕ, suc, ◌+◌, ◌-◌, ◌&&◌, ◌||◌, List, [], ◌∷◌, ltb, eqb, pos, negsuc, length, get_or, take, drop, ℤ, Option, Some, None}
use Rattle.std.specs.Prelude.{if◌then◌else◌}
use Rattle.console.specs.Words.{up_to_most}

-- the place of the first byte c; the length where there is none
unfoldable pub place_of : ℕ → List ℕ → ℕ
place_of c [] = 0
place_of c (x ∷ xs) = if eqb x c then 0 else suc (place_of c xs)

-- what stands before the first c, and what stands behind it
unfoldable pub before : ℕ → List ℕ → List ℕ
before c s = take (place_of c s) s

unfoldable pub behind : ℕ → List ℕ → List ℕ
behind c s = drop (place_of c s + 1) s

-- the number that a field says, decimal, with no 0 (48) before another digit; one past `most` where it says none up to `most`
unfoldable pub number_of : ℕ → List ℕ → ℕ
number_of most s = if eqb (length s) 0 || (ltb 1 (length s) && eqb (get_or s 0 0) 48) then most + 1 else up_to_most most s

-- "level -32767 to 32767": from zero up, and below zero, of its number without the sign
unfoldable pub above : ℕ → Option ℤ
above n = if ltb 32767 n then None else Some (pos n)

unfoldable pub below : ℕ → Option ℤ
below n = if eqb n 0 || ltb 32767 n then None else Some (negsuc (n - 1))

-- a level with a minus sign (45), or without
unfoldable pub level_in : List ℕ → Option ℤ
level_in s = if eqb (get_or s 0 0) 45 then below (number_of 32767 (drop 1 s)) else above (number_of 32767 s)
