-- A receiver's call, put together from what its parts ensure. Assumes nothing.
use Rattle.std.specs.Prelude.{Result, Ok, Err, is_ok}
use Prim.Native.Nat.{ℕ, zero, suc, ◌+◌, ◌≤◌}
use mathlib.Core.Path.{◌≡◌, refl, ap, ◌∙◌}
use mathlib.Core.Bool.{Bool, true, false, not, ◌&&◌, ◌||◌, true≢false}
use lib.Dec.{eqb, ltb}
use mathlib.Core.List.{List}
use native.Mathlib.Omega.{arith}
use borrow.Author.Tests.{ltb-false}
use lib.ListN.{length}
use lib.Ieee.{Float}
use Rattle.refusal.specs.Refusals.{Reply, given, refused, number_of, reply_in, reply_of, first, rate_refused, rates_refused}
use Rattle.refusal.proofs.RefusalLaws.{accepted-none}
use Rattle.resampling.specs.Resample.{State, Made, made, new_of, fresh}
use Rattle.modem.specs.Rx.{Receiver, refusal_of, accepted_write, wrote, written, unless_refused}
use Rattle.modem.specs.Write.{refused_by}
use Rattle.numeric.specs.Convert.{all_in_range}
use Rattle.happenings.specs.Happening.{bytes_in}
use Rattle.modem.specs.Listener.{Demod, heard_by, Listens}
use Rattle.modem.proofs.RxLaws.{heard-most}
use Rattle.refusal.specs.declared.Refusal.{Refusal}

-- ---- a fresh resampler down to 8,000
one-rate : (rate : ℕ) → rate_refused rate ≡ false → rates_refused rate 8000 ≡ false
unfolding rates_refused rate_refused
one-rate rate e = rw e (by (eqb rate 8000))
  where
    by : (b : Bool) → false || (ltb 8000 8000 || ltb 48000 8000) || (not b && not (eqb 8000 8000)) ≡ false
    by true = refl
    by false = refl

pub fresh-resampler : (rate : ℕ) → rate_refused rate ≡ false → (a : Reply Unit) (s : State) → made a s ≡ new_of rate 8000 → s ≡ fresh rate 8000
unfolding new_of
fresh-resampler rate e a s m =
    let is : new_of rate 8000 ≡ made (given tt) (fresh rate 8000) = rw (one-rate rate e) in
    ap (λ (x : Made). x.state) (m ∙ is)

pub fresh-dst : (rate : ℕ) → (fresh rate 8000).dst ≡ 8000
unfolding fresh
fresh-dst rate = refl

-- ---- a write that no check refuses
pub record Passes (xs : List Float) (n waiting : ℕ) : Type 0 where
  pub few : length xs ≤ 1024
  pub end : n + length xs ≤ 4294967296
  pub room : waiting ≤ 409

none-applies : (p q r s : Bool) → first p 3 (first q 4 (first r 31 (first s 32 0))) ≡ 0 → (p ≡ false) × (r ≡ false) × (s ≡ false)
unfolding first
none-applies true q r s e = absurd (omega arith)
none-applies false true r s e = absurd (omega arith)
none-applies false false true s e = absurd (omega arith)
none-applies false false false true e = absurd (omega arith)
none-applies false false false false e = (refl, refl, refl)

pub passes : (xs : List Float) (n waiting : ℕ) → refused_by xs n waiting ≡ 0 → Passes xs n waiting
unfolding refused_by
passes xs n waiting e =
    let b = none-applies (ltb 1024 (length xs)) (not (all_in_range xs)) (ltb 4294967296 (n + length xs)) (ltb 409 waiting) e in
    record { few = ltb-false _ _ b.0; end = ltb-false _ _ b.1; room = ltb-false _ _ b.2 }

-- "more than 409 of 512 received bytes wait": the bytes of one more write have room
pub bytes_fit : (d : Demod) (xs : List Float) (waiting : ℕ) → Listens d → waiting ≤ 409 → length xs ≤ 1024
    → waiting + length (bytes_in (heard_by d xs).happenings) ≤ 512
bytes_fit d xs waiting l w h = omega (arith, heard-most d xs l)

-- what an answer says of the number that it stands for
module _ (r : Receiver) (xs : List Float) where
  pub went-through : reply_in (Ok tt) ≡ reply_of (refusal_of r xs) → accepted_write r xs ≡ written r xs
  unfolding written
  went-through e = rw (accepted-none (Ok tt) (refusal_of r xs) e refl)

  pub stopped : (why : Refusal) → reply_in (Err why) ≡ reply_of (refusal_of r xs) → wrote (refused (number_of why)) r ≡ written r xs
  unfolding written
  stopped why = by (refusal_of r xs)
    where
      by : (k : ℕ) → reply_in (Err why) ≡ reply_of k → wrote (refused (number_of why)) r ≡ unless_refused k r (accepted_write r xs)
      by zero e = let z : ◌≡◌ {A = ℕ} 0 1 = cc in absurd (omega arith)
      by (suc k) e = let n : number_of why ≡ suc k = cc in ap (λ (x : ℕ). wrote (refused x) r) n

pub not_none : (a : Result Unit Refusal) (k : ℕ) → reply_in a ≡ reply_of k → is_ok a ≡ false → k ≡ 0 → ⊥
not_none (Ok tt) k e f z = true≢false f
not_none (Err why) k e f z = let a = rw z at e in let y : ◌≡◌ {A = ℕ} 0 1 = cc in omega arith
