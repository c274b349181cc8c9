-- The words of a command. Assumes nothing.
use Rattle.bell103.specs.declared.Role.{Role}
use Rattle.std.specs.Prelude.{ℕ, ◌+◌, ◌-◌, ◌*◌, ◌≡◌, List, [], ◌∷◌, ltb, Option, Some, None}
use Rattle.std.specs.Prelude.{if◌then◌else◌}
use Rattle.bell103.specs.declared.Role.TheVariants.{Originate, Answer}

-- a number with one digit more; one past `most` where that is none, or more than `most`
unfoldable pub with_digit : ℕ → ℕ → ℕ → ℕ
with_digit most value c =
    if ltb c 48 then most + 1
    else if ltb 57 c then most + 1
    else if ltb most (value * 10 + (c - 48)) then most + 1
    else value * 10 + (c - 48)

-- with digits up to the end
unfoldable pub decimal_from : ℕ → ℕ → List ℕ → ℕ
decimal_from most value [] = value
decimal_from most value (c ∷ cs) = if ltb most (with_digit most value c) then most + 1 else decimal_from most (with_digit most value c) cs

-- the number that a word says, decimal; one past `most` where it says none up to `most`
unfoldable pub up_to_most : ℕ → List ℕ → ℕ
up_to_most most word = decimal_from most 0 word

-- how the code answers it: the number, or none where there is none up to `most`
abbrev pub or_past : ℕ → Option ℕ → ℕ
or_past most None = most + 1
or_past most (Some n) = n

-- of a word of a command; 0 where it says none up to 65,535
unfoldable pub decimal_of : List ℕ → ℕ
decimal_of word = if ltb 65535 (up_to_most 65535 word) then 0 else up_to_most 65535 word

-- "originate"
abbrev pub originate : List ℕ
originate = 0x6F ∷ 0x72 ∷ 0x69 ∷ 0x67 ∷ 0x69 ∷ 0x6E ∷ 0x61 ∷ 0x74 ∷ 0x65 ∷ []

-- "answer"
abbrev pub answer : List ℕ
answer = 0x61 ∷ 0x6E ∷ 0x73 ∷ 0x77 ∷ 0x65 ∷ 0x72 ∷ []

-- what a word says of the role: originate, answer, or neither
pub record Says (word : List ℕ) (r : Option Role) : Type 0 where
  pub dials : word ≡ originate → r ≡ Some Originate
  pub picks_up : word ≡ answer → r ≡ Some Answer
  pub other : (word ≡ originate → ⊥) → (word ≡ answer → ⊥) → r ≡ None
