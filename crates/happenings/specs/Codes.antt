-- Happenings as codes in a lent array. Assumes nothing.
use Rattle.std.specs.Prelude.{ℕ, List, length, take, ◌≡◌}
use Rattle.happenings.specs.Happening.{happenings_of}
use Rattle.happenings.specs.declared.happening.Happening.{Happening}

-- a write of 1,024 samples makes 1,026 steps at the most
abbrev pub most_steps : ℕ
most_steps = 1026

-- and a step two happenings
abbrev pub most_codes : ℕ
most_codes = 2052

-- an array with room for them, as its type says
abbrev pub Codes : List ℕ → Type 0
Codes codes = length codes ≡ most_codes

-- what the first n codes of an array stand for
abbrev pub heard_in : ℕ → List ℕ → List Happening
heard_in n codes = happenings_of (take n codes)
