-- Durations: a sum with its carried remainder is that of the total, however the list is cut; how far the rounded answers drift. Assumes nothing.
use Prim.Native.Nat.{ℕ, ◌+◌, ◌*◌, ◌/◌, ◌%◌, ◌<◌, ◌≤◌}
use mathlib.Core.Path.{◌≡◌, refl, sym, ap, ap₂, ◌∙◌}
use mathlib.Core.List.{List, [], ◌∷◌, ◌++◌}
use native.Mathlib.Nat.{add-mul}
use native.Mathlib.Omega.{arith}
use lib.ListN.{length, replicate}
use Rattle.numeric.specs.Fold.{fold}
use Rattle.numeric.specs.Counts.{samples_for_bits}
use Rattle.bell103.specs.Roles.{baud}
use Rattle.bell103.specs.Durations.{exact_of, parts, Nearest, joined, no_time, with_bits, carried, total_bits, rounded_sum, Drift}
use Rattle.bell103.specs.declared.durations.Duration.{Duration}

abbrev duration : ℕ → ℕ → Duration
duration q r = record { quotient = q; remainder = r }

-- ---- one length
-- the remainder is below 300
pub rest_below : (rate n : ℕ) → (exact_of rate n).remainder < baud
rest_below rate n = omega arith

-- quotient and remainder say the whole product
pub parts_whole : (rate n : ℕ) → parts (exact_of rate n) ≡ n * rate
parts_whole rate n = omega arith

-- the rounded answer is the nearest, half away from zero
pub rounded-nearest : (rate n : ℕ) → Nearest (exact_of rate n) (samples_for_bits n rate)
rounded-nearest rate n = record { above = omega arith; below = omega arith }

-- and no other number is
pub nearest-only : (d : Duration) (m k : ℕ) → Nearest d m → Nearest d k → m ≡ k
nearest-only d m k a b = omega arith

-- ---- one behind the other
pub joined-exact : (rate m n : ℕ) → joined (exact_of rate m) (exact_of rate n) ≡ exact_of rate (m + n)
joined-exact rate m n =
    rw (add-mul m n rate)
    (ap₂ duration (by-quotient (m * rate) (n * rate)) (by-remainder (m * rate) (n * rate)))
  where
    by-quotient : (p q : ℕ) → p / 300 + q / 300 + (p % 300 + q % 300) / 300 ≡ (p + q) / 300
    by-quotient p q = omega arith

    by-remainder : (p q : ℕ) → (p % 300 + q % 300) % 300 ≡ (p + q) % 300
    by-remainder p q = omega arith

from-here : (rate m : ℕ) (ns : List ℕ) → fold (with_bits rate) (exact_of rate m) ns ≡ exact_of rate (m + total_bits ns)
unfolding total_bits
from-here rate m [] = ap (exact_of rate) (omega arith)
from-here rate m (n ∷ ns) =
    let e : m + n + total_bits ns ≡ m + (n + total_bits ns) = omega arith in
    ap (λ (d : Duration). fold (with_bits rate) d ns) (joined-exact rate m n) ∙ from-here rate (m + n) ns ∙ ap (exact_of rate) e

-- "That sum equals the quotient and remainder of the total"
pub carried-whole : (rate : ℕ) (ns : List ℕ) → carried rate ns ≡ exact_of rate (total_bits ns)
unfolding carried
carried-whole rate ns =
    let z : no_time ≡ exact_of rate 0 = ap₂ duration (omega arith) (omega arith) in
    let e : 0 + total_bits ns ≡ total_bits ns = omega arith in
    ap (λ (d : Duration). fold (with_bits rate) d ns) z ∙ from-here rate 0 ns ∙ ap (exact_of rate) e

total-append : (ms ns : List ℕ) → total_bits (ms ++ ns) ≡ total_bits ms + total_bits ns
unfolding total_bits
total-append [] ns = omega arith
total-append (m ∷ ms) ns = let e = total-append ms ns in omega arith

-- any cut of the list gives the same sum
pub any-cut : (rate : ℕ) (ms ns : List ℕ) → joined (carried rate ms) (carried rate ns) ≡ carried rate (ms ++ ns)
any-cut rate ms ns =
    ap₂ joined (carried-whole rate ms) (carried-whole rate ns)
    ∙ joined-exact rate (total_bits ms) (total_bits ns)
    ∙ ap (exact_of rate) (sym (total-append ms ns))
    ∙ sym (carried-whole rate (ms ++ ns))

pub any-cuts : (rate : ℕ) (ms : List ℕ) (cuts : List (List ℕ))
    → fold (λ (d : Duration) (ns : List ℕ). joined d (carried rate ns)) (carried rate ms) cuts ≡ carried rate (fold ◌++◌ ms cuts)
any-cuts rate ms [] = refl
any-cuts rate ms (ns ∷ cuts) =
    ap (λ (x : Duration). fold (λ (d : Duration) (ks : List ℕ). joined d (carried rate ks)) x cuts) (any-cut rate ms ns) ∙ any-cuts rate (ms ++ ns) cuts

-- ---- the sum of the rounded answers
rounded-off : (rate : ℕ) (ns : List ℕ)
    → (2 * (rounded_sum rate ns * baud) ≤ 2 * (total_bits ns * rate) + length ns * baud) × (2 * (total_bits ns * rate) ≤ 2 * (rounded_sum rate ns * baud) + length ns * baud)
unfolding rounded_sum total_bits
rounded-off rate [] = (omega arith, omega arith)
rounded-off rate (n ∷ ns) =
    let h = rounded-off rate ns in
    let k = rounded-nearest rate n in
    (omega (arith, add-mul n (total_bits ns) rate), omega (arith, add-mul n (total_bits ns) rate))

-- it is off by at most half a sample for each length
pub drift : (rate : ℕ) (ns : List ℕ) → Drift rate ns
drift rate ns =
    let e : parts (carried rate ns) ≡ total_bits ns * rate = ap parts (carried-whole rate ns) ∙ parts_whole rate (total_bits ns) in
    let h = rounded-off rate ns in
    record { above = rw e h.0; below = rw e h.1 }

-- a day's lines, one each ten minutes, 27 bytes of ten bits each, at 11,025 samples a second: the rounded answers are 72 samples late at
-- the day's end, half a sample for each line
pub day : List ℕ
day = replicate 144 270

pub day-carried : carried 11025 day ≡ record { quotient = 1428840; remainder = 0 }
unfolding carried day
day-carried = refl

pub day-rounded : rounded_sum 11025 day ≡ 1428840 + 72
unfolding rounded_sum day
day-rounded = refl
