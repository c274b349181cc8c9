-- Laws of the resampler's definitions, for those who call it. Assumes nothing.
use Prim.Native.Nat.{ℕ, zero, suc, ◌+◌, ◌*◌, ◌/◌, ◌<◌, ◌≤◌}
use mathlib.Core.Path.{◌≡◌, refl, ap, ap₂, ◌∙◌}
use mathlib.Core.Bool.{Bool, true, false}
use mathlib.Core.List.{List, [], ◌++◌}
use native.Mathlib.Nat.{le_refl, min-le_left, mul-le-mul_left, mul_left_comm, add-mul, one-mul, div-lt_iff_lt-mul}
use native.Mathlib.Omega.{arith}
use borrow.Author.Tests.{le-ltb}
use lib.Dec.{eqb}
use lib.ListN.{length, take, drop, length-take}
use lib.Seq.{take_all, take-append_seam}
use lib.Ieee.{Float}
use Rattle.std.specs.Prelude.{if◌then◌else◌}
use Rattle.numeric.specs.Counts.{output_len}
use Rattle.refusal.specs.Refusals.{first, given}
use Rattle.numeric.specs.Convert.{all_in_range}
use Rattle.resampling.specs.Flow.{ran, fed}
use Rattle.resampling.proofs.FlowLaws.{fed-length}
use Rattle.resampling.specs.ResampleRep.{Sound}
use Rattle.resampling.specs.declared.resample.Resampler.{Resampler}
use Rattle.resampling.specs.Resample.{State, state, filter_of, max_output_len, too_many, refusal_of, ran_over, laid, ran_into, Outcome, outcome, processed}

-- ---- a resampler of the code's is sound
pub sound-of : (r : Resampler) → Sound r
sound-of r =
    record {
      rates = r.rates;
      identity = r.equal;
      decimating = r.down;
      step = r.quotient;
      high = r.high;
      taps = r.are;
      taps_long = r.taps_long;
      ring_long = r.ring_long;
      place = r.place;
    }

-- ---- nothing in, nothing out
pub ran-none : (s : State) (room : ℕ) → ran_over s room [] ≡ ran [] s.flow
unfolding ran_over fed
ran-none s room = by (eqb s.src s.dst) room
  where
    by : (b : Bool) (n : ℕ) → (if b then ran (take n []) s.flow else ran [] s.flow) ≡ ran [] s.flow
    by true zero = refl
    by true (suc n) = refl
    by false n = refl

-- ---- a call that no check refuses
pub not-refused : (s : State) (xs out : List Float) → length xs ≤ 2048 → all_in_range xs ≡ true → max_output_len s.src s.dst (length xs) ≤ length out
    → refusal_of s xs out ≡ 0
unfolding refusal_of too_many first
not-refused s xs out h t l = rw (le-ltb _ _ h, t, le-ltb _ _ l)

pub accepted : (s : State) (xs out : List Float) → length xs ≤ 2048 → all_in_range xs ≡ true → max_output_len s.src s.dst (length xs) ≤ length out
    → processed s xs out ≡ laid s out (ran_over s (length out) xs)
unfolding processed
accepted s xs out h t l = rw (not-refused s xs out h t l)

-- ---- "Equal rates copy": the samples themselves, where there is room for them, and nothing moves
equal-rates-run : (s : State) (room : ℕ) (xs : List Float) → eqb s.src s.dst ≡ true → length xs ≤ room → ran_over s room xs ≡ ran xs s.flow
unfolding ran_over
equal-rates-run s room xs e h = rw (e, take_all room xs h)

pub equal-rates-len : (src dst n : ℕ) → eqb src dst ≡ true → max_output_len src dst n ≡ n
unfolding max_output_len
equal-rates-len src dst n e = rw e

-- with the room that `max_output_len` gives
pub equal-rates : (s : State) (xs : List Float) → eqb s.src s.dst ≡ true → ran_over s (max_output_len s.src s.dst (length xs)) xs ≡ ran xs s.flow
equal-rates s xs e = rw (equal-rates-len s.src s.dst (length xs) e) (equal-rates-run s (length xs) xs e (le_refl _))

-- a whole call of n samples into an output with room for them
pub equal-rates-process : (s : State) (xs out : List Float) → eqb s.src s.dst ≡ true → length xs ≤ 2048 → all_in_range xs ≡ true → length xs ≤ length out
    → processed s xs out ≡ outcome (given (length xs)) s (xs ++ drop (length xs) out)
equal-rates-process s xs out e h t l =
    let r = accepted s xs out h t (rw (equal-rates-len s.src s.dst (length xs) e) l) in
    r ∙ ap (laid s out) (equal-rates-run s (length out) xs e l)

-- ---- going down to 8,000, n samples make n + 2 at most
pub output-few : (src n : ℕ) → 8000 ≤ src → max_output_len src 8000 n ≤ n + 2
unfolding max_output_len
output-few src n h = by (eqb src 8000)
  where
    less : (n p q : ℕ) → p / q < n + 1 → p / q ≤ n
    less n p q l = omega arith

    few : (2 * (n * 8000) + src) / (2 * src) ≤ n
    few =
        let a : n * 8000 ≤ n * src = mul-le-mul_left n h in
        let b : (n + 1) * (2 * src) ≡ 2 * (n * src) + 2 * src = add-mul n 1 (2 * src) ∙ ap (λ (z : ℕ). z + 1 * (2 * src)) (mul_left_comm n 2 src) ∙ ap (λ (z : ℕ). 2 * (n * src) + z) (one-mul (2 * src)) in
        less n (2 * (n * 8000) + src) (2 * src) ((div-lt_iff_lt-mul (omega arith)).1 (omega arith))

    by : (b : Bool) → (if b then n else output_len n src 8000) ≤ n + 2
    by true = omega arith
    by false = omega (arith, few)

-- what a call makes has room in the output
pub ran-within : (s : State) (room : ℕ) (xs : List Float) → length (ran_over s room xs).out ≤ room
unfolding ran_over
ran-within s room xs = by (eqb s.src s.dst)
  where
    by : (b : Bool) → length (if b then ran (take room xs) s.flow else fed (filter_of s.src s.dst) room xs s.flow).out ≤ room
    by true = simp length-take (min-le_left room (length xs))
    by false = fed-length (filter_of s.src s.dst) room xs s.flow

-- with the room that `max_output_len` gives
pub ran-few : (s : State) (xs : List Float) → length (ran_over s (max_output_len s.src s.dst (length xs)) xs).out ≤ max_output_len s.src s.dst (length xs)
ran-few s xs = ran-within s (max_output_len s.src s.dst (length xs)) xs

-- ---- what `run` gave, part by part
module _ (s s' : State) (xs out out' : List Float) (n : ℕ) (e : outcome (given n) s' out' ≡ ran_into s xs out) where
  pub run-count : n ≡ length (ran_over s (length out) xs).out
  run-count = let a = ap (λ (z : Outcome). z.answer) e in cc

  pub run-state : s' ≡ state s.src s.dst (ran_over s (length out) xs).flow
  run-state = ap (λ (z : Outcome). z.state) e

  pub run-samples : take n out' ≡ (ran_over s (length out) xs).out
  run-samples = ap₂ take run-count (ap (λ (z : Outcome). z.out) e) ∙ take-append_seam (ran_over s (length out) xs).out _
