-- What a line says of a gauge, and what the text says of three. Assumes nothing.
use Rattle.tide.specs.declared.judge.Reading.{Reading}
use Rattle.std.specs.Prelude.{ℕ, ◌+◌, ◌||◌, List, ltb, eqb, length, get_or, drop, ℤ, Option, Some, None}
use Rattle.std.specs.Prelude.{if◌then◌else◌}
use Rattle.pool.specs.Fields.{place_of, before, behind, number_of, level_in}

-- ---- a line: "`R station W level` as `tideline` prints it or `R` for a missing one", fields apart by one space (32)
-- a reading of that minute, if there is a level
abbrev pub with_level : ℕ → Option ℤ → Option (Option Reading)
with_level w None = None
with_level w (Some z) = Some (Some (record { water = w; level = z }))

-- "W level": any water minute of 32 bits
unfoldable pub water_and_level : List ℕ → Option (Option Reading)
water_and_level s =
    if ltb 4294967295 (number_of 4294967295 (before 32 s)) then None else with_level (number_of 4294967295 (before 32 s)) (level_in (behind 32 s))

-- "station W level": any station from 1 to 65,535
unfoldable pub fields_of : List ℕ → Option (Option Reading)
fields_of s =
    if eqb (number_of 65535 (before 32 s)) 0 || ltb 65535 (number_of 65535 (before 32 s)) then None else water_and_level (behind 32 s)

-- "R" (82)
unfoldable pub line_of : List ℕ → Option (Option Reading)
line_of s =
    if eqb (get_or s 0 0) 82
    then (if eqb (length s) 1 then Some None else if eqb (get_or s 1 0) 32 then fields_of (drop 2 s) else None)
    else None

-- ---- "three lines on standard input", each ended by 0A (10), and nothing behind them
-- each says something, or the text is wrong
abbrev pub together : Option (Option Reading) → Option (Option Reading) → Option (Option Reading) → Option ((Option Reading) × (Option Reading) × (Option Reading))
together None m n = None
together (Some a) None n = None
together (Some a) (Some b) None = None
together (Some a) (Some b) (Some c) = Some (a, b, c)

-- the third ends with the text
unfoldable pub one_more : Option (Option Reading) → Option (Option Reading) → List ℕ → Option ((Option Reading) × (Option Reading) × (Option Reading))
one_more l m s = if eqb (place_of 10 s + 1) (length s) then together l m (line_of (before 10 s)) else None

unfoldable pub two_more : Option (Option Reading) → List ℕ → Option ((Option Reading) × (Option Reading) × (Option Reading))
two_more l s = one_more l (line_of (before 10 s)) (behind 10 s)

unfoldable pub text_of : List ℕ → Option ((Option Reading) × (Option Reading) × (Option Reading))
text_of s = two_more (line_of (before 10 s)) (behind 10 s)
