-- "Uppercase hexadecimal, two digits a byte": what characters say, and the characters that say a byte. Assumes nothing.
use Rattle.std.specs.Prelude.{ℕ, suc, ◌+◌, ◌-◌, ◌*◌, ◌/◌, ◌%◌, ◌<◌, ◌≡◌, Bool, true, false, ◌&&◌, List, [], ◌∷◌, ltb, leb, length, get_or, take, Option, Some, None}
use Rattle.std.specs.Prelude.{if◌then◌else◌}

-- the value of a character, 0-9 (48 to 57) and A-F (65 to 70), and 16 of any other
unfoldable pub hex : ℕ → ℕ
hex c = if leb 48 c && leb c 57 then c - 48 else (if leb 65 c && leb c 70 then c - 55 else 16)

-- every character is one of 0-9, A-F
unfoldable pub all_hex : List ℕ → Bool
all_hex [] = true
all_hex (c ∷ l) = ltb (hex c) 16 && all_hex l

-- the same place, with one character more in front
abbrev pub further : Option ℕ → Option ℕ
further None = None
further (Some p) = Some (suc p)

-- "the digit test shall end at the first wrong digit and answer its place, counted from 0, or none"
unfoldable pub first_wrong : List ℕ → Option ℕ
first_wrong [] = None
first_wrong (c ∷ l) = if ltb (hex c) 16 then further (first_wrong l) else Some 0

-- whether the test answers "none"
abbrev pub is_none : Option ℕ → Bool
is_none None = true
is_none (Some p) = false

-- "All characters before that place are digits, the one there is not, and none means that all are."
abbrev pub Says : List ℕ → Option ℕ → Type 0
Says l None = all_hex l ≡ true
Says l (Some p) = (p < length l) × (all_hex (take p l) ≡ true) × (hex (get_or l p 0) ≡ 16)

-- the bytes that characters say, two to a byte, the high digit first
unfoldable pub unhex : List ℕ → List ℕ
unhex [] = []
unhex (a ∷ []) = []
unhex (a ∷ b ∷ l) = (16 * hex a + hex b) ∷ unhex l

-- the character of a digit 0 to 15
unfoldable pub digit : ℕ → ℕ
digit d = if ltb d 10 then d + 48 else d + 55

-- the characters that say bytes
unfoldable pub hex_line : List ℕ → List ℕ
hex_line [] = []
hex_line (b ∷ f) = digit (b / 16) ∷ digit (b % 16) ∷ hex_line f

-- the sum of a list
unfoldable pub total : List ℕ → ℕ
total [] = 0
total (b ∷ f) = b + total f

-- "the last byte makes the sum of all n divisible by 256": that byte, for the sum of the others
unfoldable pub check_of : ℕ → ℕ
check_of s = (256 - s % 256) % 256

-- each is a byte
abbrev pub Bytes : List ℕ → Type 0
Bytes [] = Unit {0}
Bytes (b ∷ f) = (b < 256) × Bytes f
