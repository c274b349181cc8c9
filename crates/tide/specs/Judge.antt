-- What a line is judged to be: the numbers 11 to 20 and 34, and the reading that it leaves. Assumes nothing.
use Rattle.std.specs.Prelude.{ℕ, ◌%◌, ◌≤◌, ◌≡◌, ◌⊎◌, Bool, true, false, not, ◌||◌, List, ltb, eqb, ℤ, length}
use Rattle.std.specs.Prelude.{if◌then◌else◌}
use Rattle.refusal.specs.Refusals.{first}
use Rattle.hexadecimal.specs.Hex.{all_hex, unhex, total, hex_line}
use Rattle.tide.specs.Frame.{version_of, reader_of, said_length, station_of, stamp_of, age_of, level_of, signed, missing, water_of, misfit, Intact}

-- ---- 11 to 16
-- of a line, its characters (the first 64 will do) and whether there were more: "11 over 64 characters. 12 under 26 or odd. 13 not 0-9,
-- A-F. 14 b2 ≠ n. 15 sum. 16 V or F is 0, F > V, or V = 1 with n ≠ 13"; 0 where none applies
unfoldable pub damage_of : List ℕ → Bool → ℕ
damage_of l more =
    first (more || ltb 64 (length l)) 11
    (first (ltb (length l) 26 || eqb (length l % 2) 1) 12
    (first (not (all_hex l)) 13
    (first (not (eqb (said_length (unhex l)) (length (unhex l)))) 14
    (first (not (eqb (total (unhex l) % 256) 0)) 15
    (first (misfit (version_of (unhex l)) (reader_of (unhex l)) (length (unhex l))) 16
    0)))))

-- "A line that passes 11 to 16"
abbrev pub Passes : List ℕ → Bool → Type 0
Passes l more = damage_of l more ≡ 0

-- ".. is intact": it has no more than 64 characters, and they say an intact frame
pub record Passed (l : List ℕ) (more : Bool) : Type 0 where
  pub whole : more ≡ false
  pub frame : Intact (unhex l)
  pub line : hex_line (unhex l) ≡ l

-- a line that passes 11 to 17: intact, and "17 F > 1" does not apply; it is "for readers from 1 on"
pub record Readable (l : List ℕ) (more : Bool) : Type 0 where
  pub intact : Passes l more
  pub reader : reader_of (unhex l) ≤ 1

-- an answer that is none of 11 to 17
abbrev pub Past17 : ℕ → Type 0
Past17 n = (n ≡ 0) ⊎ (18 ≤ n)

-- ---- 17 to 20, by a board of station `mine`
-- of the fields of a frame for readers from 1 on: "18 station not the board's. 19 A = 255 or A > T. 20 level missing"; 0 where none applies
unfoldable pub of_fields : ℕ → ℕ → ℕ → ℕ → ℕ → ℕ
of_fields mine station stamp age level =
    first (not (eqb station mine)) 18
    (first (eqb age 255 || ltb stamp age) 19
    (first (eqb level missing) 20
    0))

-- of an intact frame: "17 F > 1", then its fields
unfoldable pub judged_of : ℕ → List ℕ → ℕ
judged_of mine f = first (ltb 1 (reader_of f)) 17 (of_fields mine (station_of f) (stamp_of f) (age_of f) (level_of f))

-- of a line: the first of 11 to 20 that applies. 0: "one that passes 11 to 20 is good"
unfoldable pub of_line : ℕ → List ℕ → Bool → ℕ
of_line mine l more = if eqb (damage_of l more) 0 then judged_of mine (unhex l) else damage_of l more

-- ---- 34, and the reading
-- "reading (W and level)"
pub record Reading : Type 0 where
  pub water : ℕ
  pub level : ℤ

-- what a frame says of the water
unfoldable pub reading_of : List ℕ → Reading
reading_of f = record { water = water_of f; level = signed (level_of f) }

-- "reading (W and level) or none"
pub data Shown : Type 0 where
  none : Shown
  shows : Reading → Shown

-- a line's answer, and what is shown after it
pub record Verdict : Type 0 where
  pub answer : ℕ
  pub reading : Shown

-- "if none stands or its W is greater"
unfoldable pub later : Shown → Reading → Bool
later none g = true
later (shows r) g = ltb r.water g.water

-- "a good line replaces the reading if none stands or its W is greater, else answer 34"; any other leaves it: of the line's number, what
-- stands, and the line's reading
unfoldable pub settle : ℕ → Shown → Reading → Verdict
settle n r g =
    if eqb n 0
    then (if later r g then record { answer = 0; reading = shows g } else record { answer = 34; reading = r })
    else record { answer = n; reading = r }

-- a line judged by a board of station `mine` that shows r
unfoldable pub judge : ℕ → Shown → List ℕ → Bool → Verdict
judge mine r l more = settle (of_line mine l more) r (reading_of (unhex l))
