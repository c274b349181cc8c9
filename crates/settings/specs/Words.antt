-- The words of the command. Assumes nothing.
use Rattle.bell103.specs.declared.Role.{Role}
use Rattle.std.specs.Prelude.{ℕ, ◌≡◌, List, [], ◌∷◌, eqb, Option, Some, None, Result, Ok, Err}
use Rattle.std.specs.Prelude.{if◌then◌else◌}
use Rattle.settings.specs.declared.words.Verb.{Verb}
use Rattle.settings.specs.declared.words.Verb.TheVariants as verb
use Rattle.settings.specs.declared.words.Unclear.{Unclear}
use Rattle.settings.specs.declared.words.Unclear.TheVariants as unclear
use Rattle.settings.specs.declared.words.Request.{Request}
use Rattle.settings.specs.declared.words.Request.TheVariants as request

-- "read"
abbrev pub reads : List ℕ
reads = 0x72 ∷ 0x65 ∷ 0x61 ∷ 0x64 ∷ []

-- "write"
abbrev pub writes : List ℕ
writes = 0x77 ∷ 0x72 ∷ 0x69 ∷ 0x74 ∷ 0x65 ∷ []

-- what the first word says: read, write, or neither
pub record Says (word : List ℕ) (r : Option Verb) : Type 0 where
  pub reading : word ≡ reads → r ≡ Some verb.Read
  pub writing : word ≡ writes → r ≡ Some verb.Write
  pub other : (word ≡ reads → ⊥) → (word ≡ writes → ⊥) → r ≡ None

-- "`settings write FILE RATE STATION ROLE`": by the last word
abbrev pub asked_role : ℕ → ℕ → Option Role → Result Request Unclear
asked_role rate station None = Err unclear.Role
asked_role rate station (Some role) = Ok (request.Write (record { rate = rate; station = station; role = role }))

-- "`settings read FILE`" has three words, the program's own name among them, and the other six
abbrev pub asked : ℕ → Option Verb → ℕ → ℕ → Option Role → Result Request Unclear
asked count (Some verb.Read) rate station n = if eqb count 3 then Ok request.Read else Err unclear.Words
asked count (Some verb.Write) rate station n = if eqb count 6 then asked_role rate station n else Err unclear.Words
asked count None rate station n = Err unclear.Words
