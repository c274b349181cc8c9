-- Three gauges' answer as numbers. Assumes nothing.
use Rattle.std.specs.Prelude.{Result, Ok, Err}
use Prim.Native.Nat.{ℕ}
use mathlib.Core.Path.{◌≡◌, refl, sym, ap, ◌∙◌}
use mathlib.Core.Bool.{true, false}
use mathlib.Core.List.{List, [], ◌∷◌}
use lib.IntN.{ℤ, pos, negsuc}
use lib.Signed.{lt_z}
use mir.Syntax.{w16}
use mir.Val.{to_z, of_z, SFits}
use mir.ValLaws.{to_z-of_z}
use Rattle.refusal.specs.Refusals.{number_of}
use Rattle.refusal.specs.declared.Refusal.{Refusal}
use Rattle.tide.specs.Judge.{Reading, Shown, none, shows}
use Rattle.tide.specs.JudgeRep.{read_of}
use Rattle.tide.specs.declared.judge.Reading as held
use Rattle.pooling.specs.Pool.{pool_of}
use Rattle.pooling.specs.PoolRep.{pooled_of}
use Rattle.ffi.specs.Durations.{at_front}
use Rattle.ffi.specs.Gauges.{gauge_of, laid, told, pool_run}

-- a gauge whose level is given in sixteen bits
pub gauge-back : (w : ℕ) (z : ℤ) → SFits w16 z → gauge_of w (to_z w16 (of_z w16 z)) ≡ gauge_of w z
gauge-back w z f = ap (gauge_of w) (to_z-of_z w16 z f)

pub gauge-missing : (w : ℕ) (z : ℤ) → lt_z z (negsuc 32766) ≡ true → none ≡ gauge_of w z
unfolding gauge_of
gauge-missing w z e = rw e refl

pub gauge-there : (w : ℕ) (z : ℤ) → lt_z z (negsuc 32766) ≡ false → shows (record { water = w; level = z }) ≡ gauge_of w z
unfolding gauge_of
gauge-there w z e = rw e refl

pub pool-of : {a b c a' b' c' : Shown} (p : Result held.Reading Refusal) → pooled_of p ≡ pool_of a b c → a ≡ a' → b ≡ b' → c ≡ c' → pooled_of p ≡ pool_of a' b' c'
pool-of p is e f g = rw (← e, ← f, ← g) is

pub gauge-row : (r : Reading) (out : List ℤ) → at_front (pos r.water ∷ r.level ∷ []) out ≡ laid r out
unfolding laid at_front
gauge-row r out = refl

-- what the pool told
module _ (a b c : Shown) (out : List ℤ) (p : Result held.Reading Refusal) (is : pooled_of p ≡ pool_of a b c) where
  pub pool-given : (r : held.Reading) → p ≡ Ok r → (out' : List ℤ) → out' ≡ laid (read_of r) out → told 0 out' ≡ pool_run a b c out
  unfolding pool_run
  pool-given r e out' q = rw (sym is ∙ ap pooled_of e, q) refl

  pub pool-refused : (r : Refusal) → p ≡ Err r → (n : ℕ) → n ≡ number_of r → told n out ≡ pool_run a b c out
  unfolding pool_run
  pool-refused r e n q = rw (sym is ∙ ap pooled_of e, q) refl
