-- How many samples a pass generates and makes, in whole numbers. Assumes nothing.
use Prim.Native.Nat.{ℕ, zero, suc, ◌+◌, ◌-◌, ◌*◌, ◌/◌, ◌%◌, ◌≤◌, ◌<◌}
use mathlib.Core.Path.{◌≡◌}
use mathlib.Core.Bool.{Bool, true, false}
use native.Mathlib.Nat.{lt_of_mul-lt-mul_right, div-add-mod, mod-lt, mul_comm, mul-le-mul_left, add-mul}
use native.Mathlib.Omega.{arith}
use lib.Dec.{eqb}
use borrow.Author.Tests.{ne_eqb}
use Rattle.refusal.specs.Refusals.{highest_rate}
use Rattle.std.specs.Prelude.{if◌then◌else◌}
use Rattle.numeric.specs.Counts.{need, output_len}
use Rattle.resampling.specs.Resample.{max_output_len}

-- need × rate < r × 8,000 + 2 × rate
need-times : (rate r : ℕ) → 0 < rate → need r rate * rate + 1 ≤ r * 8000 + 2 * rate
need-times rate r h =
    let q = (r * 8000 + rate - 1) / rate in
    let a : rate * q + (r * 8000 + rate - 1) % rate ≡ r * 8000 + rate - 1 = div-add-mod (r * 8000 + rate - 1) rate in
    let c : (q + 1) * rate ≡ q * rate + 1 * rate = add-mul q 1 rate in
    let e : rate * q ≡ q * rate = mul_comm rate q in
    omega arith

-- a pass for one sample or more generates two or more
pub need-low : (rate r : ℕ) → 0 < rate → 1 ≤ r → 2 ≤ need r rate
need-low rate r h l =
    let q = (r * 8000 + rate - 1) / rate in
    let a : rate * q + (r * 8000 + rate - 1) % rate ≡ r * 8000 + rate - 1 = div-add-mod (r * 8000 + rate - 1) rate in
    let b : (r * 8000 + rate - 1) % rate < rate = mod-lt (r * 8000 + rate - 1) h in
    some q rate (r * 8000 + rate - 1) ((r * 8000 + rate - 1) % rate) a b (omega arith)
  where
    some : (q d n m : ℕ) → d * q + m ≡ n → m < d → d ≤ n → 2 ≤ q + 1
    some zero d n m a b l = absurd (omega arith)
    some (suc q) d n m a b l = omega arith

-- and at most one more than it is asked for
pub need-over : (rate r : ℕ) → 8000 ≤ rate → need r rate ≤ r + 1
need-over rate r h =
    let q = (r * 8000 + rate - 1) / rate in
    let a : rate * q + (r * 8000 + rate - 1) % rate ≡ r * 8000 + rate - 1 = div-add-mod (r * 8000 + rate - 1) rate in
    let m : r * 8000 ≤ r * rate = mul-le-mul_left r h in
    top q rate r (omega arith) (omega arith)
  where
    top : (q rate r : ℕ) → 0 < rate → rate * q < r * rate + 1 * rate → q + 1 ≤ r + 1
    top q rate r h a = let b : q < r + 1 = lt_of_mul-lt-mul_right rate (omega (arith, mul_comm rate q, add-mul r 1 rate)) in omega arith

-- the surplus: at rates to 48,000 a pass makes at most 14 samples more than it is asked for
pub surplus : (rate r : ℕ) → 8000 ≤ rate → rate ≤ highest_rate → max_output_len 8000 rate (need r rate) ≤ r + 14
unfolding max_output_len
surplus rate r l h = by (eqb 8000 rate)
  where
    by : (b : Bool) → (if b then need r rate else output_len (need r rate) 8000 rate) ≤ r + 14
    by true = omega (arith, need-over rate r l)
    by false =
        let p = need r rate * rate in
        let a : p + 1 ≤ r * 8000 + 2 * rate = need-times rate r (omega arith) in
        omega arith

-- there is room for one
pub room-some : (rate k : ℕ) → 2 ≤ k → 1 ≤ max_output_len 8000 rate k
unfolding max_output_len
room-some rate k h = by (eqb 8000 rate)
  where
    by : (b : Bool) → 1 ≤ (if b then k else output_len k 8000 rate)
    by true = omega arith
    by false = omega arith

pub room-unequal : (rate k : ℕ) → 8000 < rate → max_output_len 8000 rate k ≡ output_len k 8000 rate
unfolding max_output_len
room-unequal rate k h = rw (ne_eqb 8000 rate (λ e. omega arith))
