-- What the definitions give at some numbers, each worked out by the prover. Assumes nothing.
use Rattle.std.proofs.Common.{◌≡◌, ℕ, true, false, refl}
use lib.Ieee.{nan, inf, binary32, of_bits, to_bits, of_int, add, sub, mul, div, neg, lt, le, eq, round}
use Rattle.numeric.specs.F64.{f64, bits, whole, zero64, magnitude}
use Rattle.numeric.specs.Sine.{sine_of, half_turn, folded, series, horner, reduced}
use Rattle.numeric.specs.Root.{root_of, improved}
use Rattle.numeric.specs.Convert.{narrowed, in_range}
use Rattle.numeric.specs.Counts.{nearest_ratio, ceiling_ratio, samples_for_bits, output_len, need, tap_count}

pub record Sines : Type 0 where
  -- 0.8414709848078937
  pub of-1 : bits (sine_of (whole 1)) ≡ 0x3FEA_ED54_8F09_0CD5
  -- -0.506365641109786
  pub of-100 : bits (sine_of (whole 100)) ≡ 0xBFE0_3425_B78C_4EAD
  -- 0.8509193596393114
  pub of-minus-400 : bits (sine_of (neg (whole 400))) ≡ 0x3FEB_3ABB_3CA5_E430
  -- more than a turn after 64 of them
  pub of-a-billion : sine_of (whole 1000000000) ≡ zero64
  pub of-infinity : sine_of (inf false) ≡ zero64
  pub of_nan : sine_of nan ≡ nan

pub sines : Sines
unfolding sine_of half_turn folded series horner reduced to_bits of_bits of_int sub mul div lt le neg
sines = record { of-1 = refl; of-100 = refl; of-minus-400 = refl; of-a-billion = refl; of-infinity = refl; of_nan = refl }

pub record Roots : Type 0 where
  pub of-3-4 : root_of (whole 3) (whole 4) ≡ whole 5
  pub of-0-0 : root_of zero64 zero64 ≡ zero64
  -- an infinity follows the steps: the second divides it by itself
  pub of-infinity : root_of (inf false) zero64 ≡ nan
  pub of_nan : root_of nan zero64 ≡ nan

pub roots : Roots
unfolding root_of improved to_bits of_bits of_int add mul div eq
roots = record { of-3-4 = refl; of-0-0 = refl; of-infinity = refl; of_nan = refl }

-- the bits of the f32 for the f64 with these bits
abbrev narrow : ℕ → ℕ
narrow b = to_bits binary32 (narrowed (f64 b))

pub record Narrowed : Type 0 where
  -- 0.1
  pub tenth : narrow 0x3FB9_9999_9999_999A ≡ 0x3DCC_CCCD
  -- 1 + 2^-24 and 1 + 3 × 2^-24, each halfway between two: the even one is below, and above
  pub tie_down : narrow 0x3FF0_0000_1000_0000 ≡ 0x3F80_0000
  pub tie_up : narrow 0x3FF0_0000_3000_0000 ≡ 0x3F80_0002
  -- the largest f32 and half a step more: an infinity
  pub overflow : narrow 0x47EF_FFFF_F000_0000 ≡ 0x7F80_0000
  -- the smallest f32, 2^-149, and half of it with a minus sign
  pub smallest : narrow 0x36A0_0000_0000_0000 ≡ 1
  pub underflow : narrow 0xB690_0000_0000_0000 ≡ 0x8000_0000

pub narrowing : Narrowed
unfolding narrowed to_bits of_bits round
narrowing = record { tenth = refl; tie_down = refl; tie_up = refl; overflow = refl; smallest = refl; underflow = refl }

pub record Tests : Type 0 where
  pub minus-zero : magnitude (neg zero64) ≡ zero64
  pub minus_one : in_range (neg (whole 1)) ≡ true
  pub two : in_range (whole 2) ≡ false
  pub infinity : in_range (inf false) ≡ false
  pub no_number : in_range nan ≡ false

pub tests : Tests
unfolding magnitude in_range of_bits of_int le lt eq neg
tests = record { minus-zero = refl; minus_one = refl; two = refl; infinity = refl; no_number = refl }

pub record Quotients : Type 0 where
  pub half_up : nearest_ratio 5 2 ≡ 3
  pub nearest-by-0 : nearest_ratio 7 0 ≡ 0
  pub ceiling-by-0 : ceiling_ratio 7 0 ≡ 0
  -- "`samples_for_bits` at 8,000: 1 gives 27, 3 gives 80"
  pub bits-1 : samples_for_bits 1 8000 ≡ 27
  pub bits-3 : samples_for_bits 3 8000 ≡ 80
  -- "48,000 to 8,000, 1,024 gives 173"; "0 gives 2"
  pub output-1024 : output_len 1024 48000 8000 ≡ 173
  pub output-0 : output_len 0 48000 8000 ≡ 2
  -- "63 at 8,001, 373 at 48,000"
  pub taps-8001 : tap_count 8001 ≡ 63
  pub taps-48000 : tap_count 48000 ≡ 373
  pub need-1024 : need 1024 48000 ≡ 172

pub quotients : Quotients
quotients =
    record { half_up = refl; nearest-by-0 = refl; ceiling-by-0 = refl; bits-1 = refl; bits-3 = refl; output-1024 = refl; output-0 = refl; taps-8001 = refl; taps-48000 = refl; need-1024 = refl }
