-- The first refusal that applies, and what an answer stands for. Assumes nothing.
use Rattle.std.specs.Prelude.{Result, Ok, Err, is_ok}
use Rattle.std.specs.Result.{result_unwrap_or}
use Prim.Native.Nat.{ℕ, zero, suc}
use mathlib.Core.Path.{◌≡◌, refl, sym}
use mathlib.Core.Bool.{Bool, true, false, true≢false}
use native.Mathlib.Omega.{arith}
use Rattle.refusal.specs.declared.Refusal.{Refusal}
use Rattle.refusal.specs.declared.Refusal.TheVariants as refusal
use Rattle.refusal.specs.Refusals.{first, number_of, reply_in, reply_of, given, refused}

pub first-yes : (n rest : ℕ) → first true n rest ≡ n
unfolding first
first-yes n rest = refl

pub first-no : (n rest : ℕ) → first false n rest ≡ rest
unfolding first
first-no n rest = refl

-- none applies: this one doesn't, and the rest give none
pub first-zero : (t : Bool) (n r : ℕ) → first t (suc n) r ≡ 0 → (t ≡ false) × (r ≡ 0)
unfolding first
first-zero true n r e = absurd (omega arith)
first-zero false n r e = (refl, e)

-- a refusal's number is never 0
pub number-some : (r : Refusal) → number_of r ≡ 0 → ⊥
number-some r e = grind arith

pub refused-by : (why : Refusal) (k : ℕ) → reply_in (Err why) ≡ reply_of k → k ≡ number_of why
refused-by why zero e = let y : ◌≡◌ {A = ℕ} 0 1 = cc in absurd (omega arith)
refused-by why (suc k) e = let n : number_of why ≡ suc k = cc in sym n

-- an accepted answer stands for no number but 0
pub accepted-none : (a : Result Unit Refusal) (k : ℕ) → reply_in a ≡ reply_of k → is_ok a ≡ true → k ≡ 0
accepted-none (Ok tt) zero e t = refl
accepted-none (Ok tt) (suc k) e t = let z : ◌≡◌ {A = ℕ} 0 1 = cc in absurd (omega arith)
accepted-none (Err r) k e t = absurd (true≢false (sym t))

-- a count that is given
pub count-given : (c : Result ℕ Refusal) (n : ℕ) → reply_in c ≡ given n → result_unwrap_or c 0 ≡ n
count-given (Ok k) n e = cc
count-given (Err r) n e = let z : ◌≡◌ {A = ℕ} 0 1 = cc in absurd (omega arith)
