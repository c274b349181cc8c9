-- The settings of a store as numbers, for hosts in C. Assumes nothing.
use Rattle.std.specs.Prelude.{ℕ, List, ◌∷◌, ltb, length, drop}
use Rattle.std.specs.Prelude.{if◌then◌else◌}
use Rattle.refusal.specs.Refusals as reply
use Rattle.refusal.specs.Refusals.{Reply}
use Rattle.store.specs.declared.reading.Found.{Found}
use Rattle.store.specs.Line.{role_byte}
use Rattle.store.specs.Store.{read_of}

-- rate, station, role (0 originate, 1 answer), lines of unknown version; nothing where there is no room for four
unfoldable pub laid : Found → List ℕ → List ℕ
laid f out =
    if ltb (length out) 4 then out
    else f.settings.rate ∷ f.settings.station ∷ role_byte f.settings.role ∷ f.unknown ∷ drop 4 out

-- the number that a read gives, and the slice after it
pub record Told : Type 0 where
  pub number : ℕ
  pub out : List ℕ

abbrev pub told : ℕ → List ℕ → Told
told n out = record { number = n; out = out }

-- 0 with the settings that count, or 40 with the slice as it was
abbrev pub given : Reply Found → List ℕ → Told
given (reply.given f) out = told 0 (laid f out)
given (reply.refused n) out = told n out

unfoldable pub read_run : List ℕ → List ℕ → Told
read_run b out = given (read_of b) out
