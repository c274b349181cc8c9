-- Standard input, cut into lines. Assumes nothing.
use Rattle.std.specs.Prelude.{◌≡◌, ℕ, ◌<◌, ◌≤◌, List, length}
use Rattle.replay.specs.declared.lines.Scanned.{Scanned}

-- a scan goes on, no further than the input and the line's buffer, whose length it keeps
abbrev pub ScansOn : ℕ → List ℕ → List ℕ → List ℕ → Scanned → Type 0
ScansOn from input before after r = (from < r.at) × (r.at ≤ length input) × (r.n ≤ length before) × (length after ≡ length before)
