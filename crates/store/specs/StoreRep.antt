-- How the code holds what it has read. Assumes nothing.
use Rattle.std.specs.Prelude.{Result}
use Rattle.std.specs.Prelude.{ℕ, ◌+◌, ◌-◌, List, eqb, get_or, take, drop}
use Rattle.std.specs.Prelude.{if◌then◌else◌}
use Rattle.refusal.specs.Refusals.{Reply, given, refused, number_of}
use Rattle.store.specs.declared.line.Settings.{Settings}
use Rattle.store.specs.declared.line.Flaw.{Flaw}
use Rattle.store.specs.declared.reading.Found.{Found}
use Rattle.store.specs.declared.reading.Scan.{Scan}
use Rattle.store.specs.Line.{judged}
use Rattle.store.specs.Store.{settled, one_unknown}

-- what each case of an answer gives
-- a line passed, the next one beginning at `next`
abbrev pub passed_line : Scan → Result Settings Flaw → ℕ → Scan
passed_line f j next = record { start = next; latest = settled f.latest j; unknown = f.unknown + one_unknown j }

-- the byte at place i passed: 0A ends the line that began at `start`
unfoldable pub passed : Scan → List ℕ → ℕ → Scan
passed f s i = if eqb (get_or s i 0) 10 then passed_line f (judged (take (i - f.start) (drop f.start s))) (i + 1) else f
