-- Counts of 64 bits: each holds at the most that it can say. Assumes nothing.
use Rattle.std.specs.Prelude.{ℕ, min, List, [], ◌∷◌}

-- 18,446,744,073,709,551,615
abbrev pub most_count : ℕ
most_count = 18446744073709551615

unfoldable pub held : List ℕ → List ℕ
held [] = []
held (n ∷ cs) = min n most_count ∷ held cs
