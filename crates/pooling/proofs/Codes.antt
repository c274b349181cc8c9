-- What the proof of `pool` cites: what is kept gauge by gauge. Assumes nothing.
use Prim.Native.Nat.{ℕ, max}
use mathlib.Core.Path.{◌≡◌, refl, ap}
use mathlib.Core.Bool.{Bool, true, false}
use mathlib.Core.List.{List, [], ◌∷◌, ◌++◌}
use native.Mathlib.Omega.{arith}
use Rattle.std.specs.Prelude.{if◌then◌else◌}
use Rattle.tide.specs.Judge.{Reading, Shown}
use Rattle.pooling.specs.Pool.{there, readings, newest, too_old, kept_of, pooled, pool_of}

-- the newest of two parts, and what is kept of them
pub newest-append : (rs ss : List Reading) → newest (rs ++ ss) ≡ max (newest rs) (newest ss)
unfolding newest
newest-append [] ss = omega arith
newest-append (r ∷ rs) ss = let e = newest-append rs ss in omega arith

pub kept_of-append : (n : ℕ) (rs ss : List Reading) → kept_of n (rs ++ ss) ≡ kept_of n rs ++ kept_of n ss
unfolding kept_of
kept_of-append n [] ss = refl
kept_of-append n (r ∷ rs) ss = by (too_old n r) (kept_of-append n rs ss)
  where
    by : (t : Bool) → kept_of n (rs ++ ss) ≡ kept_of n rs ++ kept_of n ss
        → (if t then kept_of n (rs ++ ss) else r ∷ kept_of n (rs ++ ss)) ≡ (if t then kept_of n rs else r ∷ kept_of n rs) ++ kept_of n ss
    by true e = e
    by false e = ap (λ (l : List Reading). r ∷ l) e

-- the newest of three gauges
pub newest-three : (a b c : Shown) → newest (readings a b c) ≡ max (newest (there a)) (max (newest (there b)) (newest (there c)))
newest-three a b c = let e = newest-append (there a ++ there b) (there c) in let f = newest-append (there a) (there b) in omega arith

-- what is kept of three gauges, where each gauge's is kept by itself
pub kept-three : (a b c a' b' c' : Shown) (n : ℕ) → n ≡ newest (readings a b c)
    → there a' ≡ kept_of n (there a) → there b' ≡ kept_of n (there b) → there c' ≡ kept_of n (there c)
    → pooled (readings a' b' c') ≡ pool_of a b c
unfolding pool_of
kept-three a b c a' b' c' n e p q r =
    rw (← e, kept_of-append n (there a ++ there b) (there c), kept_of-append n (there a) (there b), p, q, r) refl
