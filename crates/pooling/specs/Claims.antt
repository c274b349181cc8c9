-- What is claimed of three gauges and of what is shown of them. Assumes nothing.
use Rattle.std.specs.Prelude.{ℕ, ◌+◌, ◌≤◌, ◌≡◌, ◌⊎◌, ◌↔◌, List, [], ◌∷◌, ◌++◌, ℤ}
use Rattle.std.specs.Int.Signed.{le_z}
use Rattle.std.specs.Prelude.{if◌then◌else◌}
use Rattle.refusal.specs.Refusals.{given, refused}
use Rattle.tide.specs.Judge.{Reading, Shown, none}
use Rattle.pooling.specs.Pool.{there, readings, newest, kept, pooled, pool_of}

-- something holds of each of some readings; of one of them
abbrev pub Each : (Reading → Type 0) → List Reading → Type 0
Each P [] = Unit {0}
Each P (r ∷ rs) = P r × Each P rs

abbrev pub Some : (Reading → Type 0) → List Reading → Type 0
Some P [] = ⊥
Some P (r ∷ rs) = P r ⊎ Some P rs

-- how many of three levels are "no higher" than m, and how many "no lower"
abbrev pub no_higher : ℤ → ℤ → ℤ → ℤ → ℕ
no_higher x y z m = (if le_z x m then 1 else 0) + (if le_z y m then 1 else 0) + (if le_z z m then 1 else 0)

abbrev pub no_lower : ℤ → ℤ → ℤ → ℤ → ℕ
no_lower x y z m = (if le_z m x then 1 else 0) + (if le_z m y then 1 else 0) + (if le_z m z then 1 else 0)

-- "The middle is the level with at least two readings no higher and at least two no lower"
pub record Middle (x y z m : ℤ) : Type 0 where
  pub under : 2 ≤ no_higher x y z m
  pub over : 2 ≤ no_lower x y z m

-- at most 5 minutes older than the newest of some readings
abbrev pub Recent : List Reading → Reading → Type 0
Recent rs r = newest rs ≤ r.water + 5

-- what is shown, p, of the readings that are there, rs
pub record Shows (rs : List Reading) (p : Reading) : Type 0 where
  -- every kept reading is one that is there
  pub among : Each (λ (k : Reading). Some (λ (r : Reading). r ≡ k) rs) (kept rs)
  -- no kept reading is more than 5 minutes older than the newest, and every one within 5 minutes is kept
  pub recent : Each (Recent rs) (kept rs)
  pub all : Each (λ (r : Reading). Recent rs r → Some (λ (k : Reading). k ≡ r) (kept rs)) rs
  -- the level is that of a kept reading
  pub level : Some (λ (k : Reading). k.level ≡ p.level) (kept rs)
  -- of three kept it is the middle
  pub middle : (r s t : Reading) → kept rs ≡ r ∷ s ∷ t ∷ [] → Middle r.level s.level t.level p.level
  -- the minute is at most that of each kept, and one of theirs
  pub oldest : Each (λ (k : Reading). p.water ≤ k.water) (kept rs)
  pub minute : Some (λ (k : Reading). k.water ≡ p.water) (kept rs)
  -- no fresh stamp on old water: the shown minute is never newer than the water that the shown level was read from
  pub no_fresher : Some (λ (k : Reading). (k.level ≡ p.level) × (p.water ≤ k.water)) (kept rs)

-- what three gauges show
pub record Pools (a b c : Shown) : Type 0 where
  -- "46 when all three are missing", and then alone
  pub missing : (pool_of a b c ≡ refused 46) ↔ ((a ≡ none) × (b ≡ none) × (c ≡ none))
  -- any other answer is a reading, of which this holds
  pub shown : (pool_of a b c ≡ refused 46) ⊎ ((p : Reading) × (pool_of a b c ≡ given p) × Shows (readings a b c) p)
  -- the order of the gauges does not matter: two neighbours change places
  pub first_two : pool_of a b c ≡ pool_of b a c
  pub last_two : pool_of a b c ≡ pool_of a c b

-- a missing reading changes nothing for the others, whichever gauge's it is
pub record Missing (a b : Shown) : Type 0 where
  pub first : pool_of none a b ≡ pooled (kept (there a ++ there b))
  pub second : pool_of a none b ≡ pooled (kept (there a ++ there b))
  pub third : pool_of a b none ≡ pooled (kept (there a ++ there b))
