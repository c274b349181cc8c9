-- What the answer of `new` says about the check before it. Assumes nothing.
use Prim.Native.Nat.{ℕ}
use mathlib.Core.Path.{◌≡◌, refl, sym, ap, ◌∙◌}
use mathlib.Core.Bool.{Bool, true, false}
use native.Mathlib.Omega.{arith}
use Rattle.std.specs.Prelude.{if◌then◌else◌, Result, Ok, Err}
use Rattle.std.specs.Result.{result_unwrap_or}
use Rattle.refusal.specs.Refusals.{Reply, given, refused, reply_in}
use Rattle.refusal.specs.declared.Refusal.{Refusal}
use Rattle.calls.specs.Answers.{count_in}

-- an answer is not both
not-both : (k : ℕ) → ◌≡◌ {A = Reply Unit} (given tt) (refused k) → ⊥
not-both k e =
    let z : ◌≡◌ {A = ℕ} 0 1 = cc in
    absurd (omega arith)

module _ {M : Type 0} (answer : M → Reply Unit) where
  pub accepted-only : {S : Type 0} (state : M → S) (m m1 m2 : M) (b : Bool) → answer m ≡ given tt → answer m1 ≡ refused 1 → m ≡ (if b then m1 else m2)
      → (b ≡ false) × (state m ≡ state m2)
  accepted-only state m m1 m2 true given_is refused-is e = absurd (not-both 1 (sym given_is ∙ ap answer e ∙ refused-is))
  accepted-only state m m1 m2 false given_is refused-is e = (refl, ap state e)

  pub refused-only : (k : ℕ) (m m1 m2 : M) (b : Bool) → answer m ≡ refused k → answer m2 ≡ given tt → m ≡ (if b then m1 else m2) → b ≡ true
  refused-only k m m1 m2 true refused-is given_is e = refl
  refused-only k m m1 m2 false refused-is given_is e = absurd (not-both k (sym given_is ∙ sym (ap answer e) ∙ refused-is))

-- the count of an answer, 0 where it is refused
pub count-given : (a : Result ℕ Refusal) → result_unwrap_or a 0 ≡ count_in (reply_in a)
count-given (Ok n) = refl
count-given (Err why) = refl
