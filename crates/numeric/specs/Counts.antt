-- Counts of samples in whole numbers, each beside what the Rust works out in f64: "Round and ceil to `usize` are whole-number divisions,
-- proved equal where the product divided is below 2^40" (proofs/CountLaws.antt proves it below 2^50). Assumes nothing.
use Rattle.std.specs.Prelude.{ℕ, ◌+◌, ◌-◌, ◌*◌, ◌/◌}
use Rattle.numeric.specs.F64.{◌⊗◌, ◌⊘◌, whole}
use Rattle.numeric.specs.Rounding.{round_usize, ceil_usize}

-- p / c to the nearest whole number, half up. A quotient by 0 is 0 here, as everywhere in these definitions.
abbrev pub nearest_ratio : ℕ → ℕ → ℕ
nearest_ratio p c = (2 * p + c) / (2 * c)

-- p / c, up to a whole number
abbrev pub ceiling_ratio : ℕ → ℕ → ℕ
ceiling_ratio p c = (p + c - 1) / c

-- ---- `samples_for_bits`: round(n as f64 * sample_rate as f64 / BAUD) as usize
abbrev pub rust_samples_for_bits : ℕ → ℕ → ℕ
rust_samples_for_bits n rate = round_usize (whole n ⊗ whole rate ⊘ whole 300)

abbrev pub samples_for_bits : ℕ → ℕ → ℕ
samples_for_bits n rate = nearest_ratio (n * rate) 300

-- ---- `max_output_len`, on unequal rates: round(input_len as f64 * dst_rate / src_rate) as usize + 2
abbrev pub rust_output_len : ℕ → ℕ → ℕ → ℕ
rust_output_len n src dst = round_usize (whole n ⊗ whole dst ⊘ whole src) + 2

abbrev pub output_len : ℕ → ℕ → ℕ → ℕ
output_len n src dst = nearest_ratio (n * dst) src + 2

-- ---- what the sender makes for the samples that remain: ceil(remaining as f64 * DSP_RATE / sample_rate as f64) as usize + 1
abbrev pub rust_need : ℕ → ℕ → ℕ
rust_need remaining rate = ceil_usize (whole remaining ⊗ whole 8000 ⊘ whole rate) + 1

abbrev pub need : ℕ → ℕ → ℕ
need remaining rate = ceiling_ratio (remaining * 8000) rate + 1

-- ---- the resampler's taps: span_s = (REF_TAPS - 1) as f64 / DSP_RATE, and round(span_s * filter_fs) as usize + 1.
-- "Taps number round(62/8000 × faster rate) + 1: 63 at 8,001, 373 at 48,000"
abbrev pub rust_tap_count : ℕ → ℕ
rust_tap_count fs = round_usize (whole 62 ⊘ whole 8000 ⊗ whole fs) + 1

abbrev pub tap_count : ℕ → ℕ
tap_count fs = nearest_ratio (62 * fs) 8000 + 1
