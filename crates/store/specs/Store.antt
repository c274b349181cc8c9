-- The store: its lines, what is unused, what a read answers, and what a write does. Assumes nothing.
use Rattle.store.specs.declared.line.Settings.{Settings}
use Rattle.std.specs.Prelude.{Result, Ok, Err, Option, Some, None}
use Rattle.std.specs.Prelude.{ℕ, ◌+◌, ◌-◌, List, [], ◌∷◌, ◌++◌, ltb, eqb, length, take}
use Rattle.std.proofs.Math.Seq.{paste}
use Rattle.std.specs.Prelude.{if◌then◌else◌}
use Rattle.refusal.specs.Refusals.{Reply, given, refused, first, rate_refused}
use Rattle.bell103.specs.declared.Role.{Role}
use Rattle.store.specs.declared.line.Settings.{Settings}
use Rattle.store.specs.declared.line.Flaw.{Flaw}
use Rattle.store.specs.declared.line.Flaw.TheVariants.{UnknownVersion, Damaged}
use Rattle.store.specs.declared.reading.Found.{Found}
use Rattle.store.specs.Line.{judged, line_of}

-- ---- lines, and what is unused
-- "in the first 256 bytes of a lent buffer, or all of a shorter one"
abbrev pub store_of : List ℕ → List ℕ
store_of b = take 256 b

-- "lines ended by 0A" (10): those of s, of which the first begins with the characters l
unfoldable pub lines_from : List ℕ → List ℕ → List (List ℕ)
lines_from l [] = []
lines_from l (c ∷ s) = if eqb c 10 then l ∷ lines_from [] s else lines_from (l ++ c ∷ []) s

-- "Bytes behind the last 0A, or all where there is none, are unused": of s, behind the characters l
unfoldable pub unused_from : List ℕ → List ℕ → List ℕ
unused_from l [] = l
unused_from l (c ∷ s) = if eqb c 10 then unused_from [] s else unused_from (l ++ c ∷ []) s

-- of a buffer
abbrev pub lines_of : List ℕ → List (List ℕ)
lines_of b = lines_from [] (store_of b)

abbrev pub unused_of : List ℕ → List ℕ
unused_of b = unused_from [] (store_of b)

-- the place of the first unused byte
unfoldable pub first_unused : List ℕ → ℕ
first_unused b = length (store_of b) - length (unused_of b)

-- ---- reading
-- "The last good line counts": what counts after a line, where `a` did before it
abbrev pub settled : Option Settings → Result Settings Flaw → Option Settings
settled a (Ok s) = Some s
settled a (Err UnknownVersion) = a
settled a (Err Damaged) = a

-- after lines
unfoldable pub last_good : Option Settings → List (List ℕ) → Option Settings
last_good a [] = a
last_good a (l ∷ ls) = last_good (settled a (judged l)) ls

-- "passed over and counted": 1 of a line of unknown version, else 0
abbrev pub one_unknown : Result Settings Flaw → ℕ
one_unknown (Ok s) = 0
one_unknown (Err UnknownVersion) = 1
one_unknown (Err Damaged) = 0

-- how many of some lines are of an unknown version
unfoldable pub unknowns : List (List ℕ) → ℕ
unknowns [] = 0
unknowns (l ∷ ls) = one_unknown (judged l) + unknowns ls

-- "40 when no good line is found"; else the settings, and the number of lines of unknown version
abbrev pub answer_of : Option Settings → ℕ → Reply Found
answer_of None n = refused 40
answer_of (Some s) n = given (record { settings = s; unknown = n })

-- what a read of a buffer answers
unfoldable pub read_of : List ℕ → Reply Found
read_of b = answer_of (last_good None (lines_of b)) (unknowns (lines_of b))

-- ---- writing
-- the buffer with only the first k bytes of a line written: "A writer puts one line at the first of them. All other bytes stay the same"
unfoldable pub torn : List ℕ → List ℕ → ℕ → List ℕ
torn b line k = paste b (first_unused b) line k

-- "a bad rate or station gets 1 or 2"; "41 when fewer than 15 bytes are unused"; 0 where none applies
unfoldable pub write_number : List ℕ → ℕ → ℕ → ℕ
write_number b rate station =
    first (rate_refused rate) 1
    (first (eqb station 0) 2
    (first (ltb (length (unused_of b)) 15) 41
    0))

-- what a write answers, and the buffer after it
pub record Writing : Type 0 where
  pub answer : Reply Unit
  pub buffer : List ℕ

abbrev pub writing : Reply Unit → List ℕ → Writing
writing a b = record { answer = a; buffer = b }

-- a refused write leaves the buffer as it was; any other puts the line there whole
unfoldable pub write_of : List ℕ → ℕ → ℕ → Role → Writing
write_of b rate station role =
    if eqb (write_number b rate station) 0
    then writing (given tt) (torn b (line_of rate station role) 15)
    else writing (refused (write_number b rate station)) b
