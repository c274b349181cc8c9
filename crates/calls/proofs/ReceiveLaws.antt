-- What a script and the answer of `new` say, for all who run calls of a receiver. Assumes nothing.
use Prim.Native.Nat.{ℕ}
use mathlib.Core.Path.{◌≡◌, refl}
use mathlib.Core.Bool.{true, false}
use Rattle.refusal.specs.Refusals.{given, refused, rate_refused}
use Rattle.bell103.specs.declared.Role.{Role}
use Rattle.modem.specs.Rx.{Receiver, Made, made, new_of, fresh_receiver}
use Rattle.calls.proofs.Made.{accepted-only, refused-only}

-- ---- the rate, as `new` judges it
module _ (rate : ℕ) (role : Role) (s : Receiver) where
  pub rate-accepted : made (given tt) s ≡ new_of rate role → (rate_refused rate ≡ false) × (s ≡ fresh_receiver rate role)
  unfolding new_of
  rate-accepted e = accepted-only (λ (m : Made). m.answer) (λ (m : Made). m.state) _ _ _ (rate_refused rate) refl refl e

  pub rate-refused : (k : ℕ) → made (refused k) s ≡ new_of rate role → rate_refused rate ≡ true
  unfolding new_of
  rate-refused k e = refused-only (λ (m : Made). m.answer) k _ _ _ (rate_refused rate) refl refl e
