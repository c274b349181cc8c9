-- The line charge as numbers. Assumes nothing.
use Prim.Native.Nat.{ℕ, ◌≤◌}
use mathlib.Core.Path.{◌≡◌, refl, ap, ◌∙◌}
use mathlib.Core.List.{List, [], ◌∷◌}
use native.Mathlib.Omega.{arith}
use lib.IntN.{ℤ, pos}
use Rattle.refusal.specs.Refusals.{Reply, given}
use Rattle.charges.specs.declared.Month.{Month}
use Rattle.charges.specs.Charge.{month_of, month_charge_of}
use Rattle.charges.proofs.MonthLaws.{accepted}
use Rattle.calls.specs.Answers.{number_in}
use Rattle.ffi.specs.Durations.{at_front}
use Rattle.ffi.specs.Charge.{most_shown, laid_call, laid_month}

-- ---- a call's charge, and a month's
pub call-row : (n : ℕ) (out : List ℕ) → at_front (n ∷ []) out ≡ laid_call n out
unfolding laid_call at_front
call-row n out = refl

pub month-row : (m : Month) (out : List ℤ) → at_front (pos m.thousandths ∷ pos m.pence ∷ m.part ∷ []) out ≡ laid_month m out
unfolding laid_month at_front
month-row m out = refl

-- a month's numbers have room
pub fits-shown : (rate : ℕ) (calls : List ℕ) (m : Month) → month_charge_of rate calls ≡ given m → (m.thousandths ≤ most_shown) × (m.pence ≤ most_shown)
unfolding month_of
fits-shown rate calls m e =
    let a = accepted rate calls m e in
    rw a.0 (omega (arith, a.1), omega (arith, a.2))

-- ---- what a function told: its number, and the slice after it
pub said : {A B : Type 0} (f : Reply A → B) {y x : Reply A} {k : ℕ} {b : B} → y ≡ x → k ≡ number_in y → b ≡ f y → (k ≡ number_in x) × (b ≡ f x)
said f e p q = (p ∙ ap number_in e, q ∙ ap f e)
