-- Each count in whole numbers is what the Rust works out in f64. Assumes nothing.
use Rattle.std.proofs.Common.{◌≡◌, ℕ, ◌+◌, ◌<◌, ◌≤◌, refl, ap, le_trans, le_refl, lt_of_le_of_lt, mul-le-mul, arith, lit<, lit≤}
use lib.Ieee.{div, of_int}
use Rattle.numeric.specs.F64.{◌⊘◌, whole}
use Rattle.numeric.specs.Rounding.{round_usize}
use Rattle.numeric.proofs.RoundingLaws.{round-ratio, ceil-ratio}
use Rattle.numeric.proofs.Taps.{span-law}
use Rattle.numeric.specs.Counts.{rust_samples_for_bits, samples_for_bits, rust_output_len, output_len, rust_need, need, rust_tap_count, tap_count}

pub samples-for-bits-is : (n rate : ℕ) → n ≤ 1048576 → rate ≤ 96000 → rust_samples_for_bits n rate ≡ samples_for_bits n rate
samples-for-bits-is n rate N R =
    round-ratio n rate 300 (le_trans N (lit≤ tt)) (le_trans R (lit≤ tt)) (lit< tt) (lit< tt) (lt_of_le_of_lt (mul-le-mul N R) (lit< tt))

pub output-len-is : (n src dst : ℕ) → n ≤ 2048 → 0 < src → src ≤ 96000 → dst ≤ 96000 → rust_output_len n src dst ≡ output_len n src dst
output-len-is n src dst N p S D =
    ap (λ (x : ℕ). x + 2) (round-ratio n dst src (le_trans N (lit≤ tt)) (le_trans D (lit≤ tt)) p (lt_of_le_of_lt S (lit< tt)) (lt_of_le_of_lt (mul-le-mul N D) (lit< tt)))

pub need-is : (remaining rate : ℕ) → remaining ≤ 1048576 → 0 < rate → rate ≤ 96000 → rust_need remaining rate ≡ need remaining rate
need-is n rate N p R =
    ap (λ (x : ℕ). x + 1) (ceil-ratio n 8000 rate (le_trans N (lit≤ tt)) (lit≤ tt) p (lt_of_le_of_lt R (lit< tt)) (lt_of_le_of_lt (mul-le-mul N (le_refl 8000)) (lit< tt)))

-- ---- the receiver's window: round(DSP_RATE / BAUD) as usize
pub window-is : round_usize (whole 8000 ⊘ whole 300) ≡ 27
unfolding round_usize div of_int
window-is = refl

pub tap-count-is : (fs : ℕ) → fs ≤ 96000 → rust_tap_count fs ≡ tap_count fs
tap-count-is fs h = ap (λ (x : ℕ). x + 1) (span-law fs h)

pub taps-least : (fs : ℕ) → 8000 ≤ fs → 63 ≤ tap_count fs
taps-least fs h = omega arith

pub taps-most : (fs : ℕ) → fs ≤ 48000 → tap_count fs ≤ 373
taps-most fs h = omega arith

pub taps-most-96 : (fs : ℕ) → fs ≤ 96000 → tap_count fs ≤ 745
taps-most-96 fs h = omega arith
