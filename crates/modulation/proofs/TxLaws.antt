-- The sender's counts are what the Rust works out in f64. Assumes nothing.
use Prim.Native.Nat.{ℕ, ◌≤◌}
use mathlib.Core.Path.{◌≡◌, sym, ap}
use native.Mathlib.Omega.{arith}
use native.Mathlib.Nat.{le_trans}
use lib.Dec.{lit≤}
use borrow.Author.Tests.{le-ltb}
use Rattle.numeric.specs.Counts.{need, rust_need, rust_samples_for_bits}
use Rattle.numeric.proofs.CountLaws.{need-is, samples-for-bits-is}
use Rattle.refusal.specs.Refusals.{given, highest_rate}
use Rattle.modulation.specs.Tx.{Sender, duration_of}

-- `samples_for_bits`: round(n as f64 * sample_rate as f64 / BAUD) as usize
pub duration-is : (s : Sender) (n : ℕ) → n ≤ 1048576 → s.modulator.rate ≤ highest_rate → duration_of s n ≡ given (rust_samples_for_bits n s.modulator.rate)
unfolding duration_of
duration-is s n h r = rw (le-ltb _ _ h) (ap given (sym (samples-for-bits-is n s.modulator.rate h (le_trans r (lit≤ tt)))))

-- what a pass generates: ceil(remaining as f64 * DSP_RATE / sample_rate as f64) as usize + 1
pub need-rust : (remaining rate : ℕ) → remaining ≤ 1024 → 8000 ≤ rate → rate ≤ highest_rate → need remaining rate ≡ rust_need remaining rate
need-rust remaining rate n l h = sym (need-is remaining rate (le_trans n (lit≤ tt)) (omega arith) (le_trans h (lit≤ tt)))
