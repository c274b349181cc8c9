-- Three gauges and what they show together as numbers, for hosts in C. Assumes nothing.
use Rattle.std.specs.Prelude.{ℕ, List, ◌∷◌, ltb, ℤ, pos, negsuc, length, drop}
use Rattle.std.specs.Int.Signed.{lt_z}
use Rattle.std.specs.Prelude.{if◌then◌else◌}
use Rattle.refusal.specs.Refusals as reply
use Rattle.refusal.specs.Refusals.{Reply}
use Rattle.tide.specs.Judge.{Reading, Shown, none, shows}
use Rattle.pooling.specs.Pool.{pool_of}

-- a water minute and a level; "-32,768 = missing", which alone of sixteen bits is below -32,767
unfoldable pub gauge_of : ℕ → ℤ → Shown
gauge_of w z = if lt_z z (negsuc 32766) then none else shows (record { water = w; level = z })

-- water minute and level; nothing where there is no room for two
unfoldable pub laid : Reading → List ℤ → List ℤ
laid r out = if ltb (length out) 2 then out else pos r.water ∷ r.level ∷ drop 2 out

-- the number that is given, and the slice after it
pub record Told : Type 0 where
  pub number : ℕ
  pub out : List ℤ

abbrev pub told : ℕ → List ℤ → Told
told n out = record { number = n; out = out }

-- 0 with what is shown, or 46 with the slice as it was
abbrev pub given : Reply Reading → List ℤ → Told
given (reply.given r) out = told 0 (laid r out)
given (reply.refused n) out = told n out

unfoldable pub pool_run : Shown → Shown → Shown → List ℤ → Told
pool_run a b c out = given (pool_of a b c) out
