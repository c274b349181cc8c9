-- How many samples bits last as numbers, for hosts in C. Assumes nothing.
use Rattle.std.specs.Prelude.{ℕ, List, [], ◌∷◌, ◌++◌, ltb, length, drop}
use Rattle.std.specs.Prelude.{if◌then◌else◌}
use Rattle.refusal.specs.Refusals as reply
use Rattle.refusal.specs.Refusals.{Reply}
use Rattle.bell103.specs.declared.durations.Duration.{Duration}
use Rattle.bell103.specs.declared.durations.Measure.{Measure}
use Rattle.bell103.specs.Durations.{exact_reply, sum_reply}
use Rattle.ffi.specs.Settings.{Told, told}

-- numbers at the front of a slice; nothing where there is no room for all of them
unfoldable pub at_front : {A : Type 0} → List A → List A → List A
at_front ns out = if ltb (length out) (length ns) then out else ns ++ drop (length ns) out

-- quotient, remainder, and the rounded count
abbrev pub measure_numbers : Measure → List ℕ
measure_numbers m = m.exact.quotient ∷ m.exact.remainder ∷ m.rounded ∷ []

abbrev pub duration_numbers : Duration → List ℕ
duration_numbers d = d.quotient ∷ d.remainder ∷ []

-- 0 with the numbers of what is given, or the refusal with the slice as it was
abbrev pub told_by : {A : Type 0} → (A → List ℕ) → Reply A → List ℕ → Told
told_by f (reply.given x) out = told 0 (at_front (f x) out)
told_by f (reply.refused n) out = told n out

unfoldable pub exact_run : ℕ → ℕ → List ℕ → Told
exact_run rate n out = told_by measure_numbers (exact_reply rate n) out

unfoldable pub sum_run : ℕ → List ℕ → List ℕ → Told
sum_run rate lengths out = told_by duration_numbers (sum_reply rate lengths) out
