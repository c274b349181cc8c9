-- How many samples bits last, without drift (request K7). Assumes nothing.
use Rattle.refusal.specs.declared.Refusal.{Refusal}
use Rattle.std.specs.Prelude.{ℕ, ◌+◌, ◌*◌, ◌/◌, ◌%◌, ◌<◌, ◌≤◌, ◌≡◌, Bool, false, ◌||◌, List, [], ◌∷◌, ltb, length, Result}
use Rattle.std.specs.Prelude.{if◌then◌else◌}
use Rattle.numeric.specs.Fold.{fold}
use Rattle.numeric.specs.Counts.{samples_for_bits}
use Rattle.refusal.specs.Refusals.{Reply, given, refused, number_of, rate_refused, reply_in}
use Rattle.bell103.specs.Roles.{baud}
use Rattle.bell103.specs.declared.durations.Duration.{Duration}
use Rattle.bell103.specs.declared.durations.Measure.{Measure}

-- "for n ≤ 1,048,576"
abbrev pub longest : ℕ
longest = 1048576

-- "at most 1,000 lengths"
abbrev pub most_lengths : ℕ
most_lengths = 1000

-- "for n bits at a rate, the quotient and the remainder of n × rate by 300"
abbrev pub exact_of : ℕ → ℕ → Duration
exact_of rate n = record { quotient = n * rate / baud; remainder = n * rate % baud }

-- a duration in three-hundredths of a sample
abbrev pub parts : Duration → ℕ
parts d = d.quotient * baud + d.remainder

-- "The rounded answer remains beside it": that of `samples_for_bits`
abbrev pub measure_of : ℕ → ℕ → Measure
measure_of rate n = record { exact = exact_of rate n; rounded = samples_for_bits n rate }

-- the whole number nearest to a duration, half away from zero: no more than half a sample above it, and less than half a sample below it
pub record Nearest (d : Duration) (m : ℕ) : Type 0 where
  pub above : 2 * (m * baud) ≤ 2 * parts d + baud
  pub below : 2 * parts d < 2 * (m * baud) + baud

-- 1, then "7 n too large"
unfoldable pub exact_reply : ℕ → ℕ → Reply Measure
exact_reply rate n =
    if rate_refused rate then refused 1
    else if ltb longest n then refused 7
    else given (measure_of rate n)

-- ---- a list of lengths
-- one duration behind another, with what is left over carried along
abbrev pub joined : Duration → Duration → Duration
joined a b =
    record {
      quotient = a.quotient + b.quotient + (a.remainder + b.remainder) / baud;
      remainder = (a.remainder + b.remainder) % baud;
    }

-- no time at all
abbrev pub no_time : Duration
no_time = record { quotient = 0; remainder = 0 }

-- a duration, and n bits behind it
abbrev pub with_bits : ℕ → Duration → ℕ → Duration
with_bits rate d n = joined d (exact_of rate n)

-- "for a list of lengths the sum with its carried remainder"
unfoldable pub carried : ℕ → List ℕ → Duration
carried rate lengths = fold (with_bits rate) no_time lengths

-- "the total"
unfoldable pub total_bits : List ℕ → ℕ
total_bits [] = 0
total_bits (n ∷ ns) = n + total_bits ns

-- whether "7" applies to a length of the list
unfoldable pub any_too_long : List ℕ → Bool
any_too_long [] = false
any_too_long (n ∷ ns) = ltb longest n || any_too_long ns

-- "42 for more than 1,000 lengths, after 1 and before 7"
unfoldable pub sum_reply : ℕ → List ℕ → Reply Duration
sum_reply rate lengths =
    if rate_refused rate then refused 1
    else if ltb most_lengths (length lengths) then refused 42
    else if any_too_long lengths then refused 7
    else given (carried rate lengths)

-- ---- "adds up rounded lengths": what the gauge did before
unfoldable pub rounded_sum : ℕ → List ℕ → ℕ
rounded_sum rate [] = 0
rounded_sum rate (n ∷ ns) = samples_for_bits n rate + rounded_sum rate ns

-- how far their sum may be off, either way: at most half a sample for each length
pub record Drift (rate : ℕ) (lengths : List ℕ) : Type 0 where
  pub above : 2 * (rounded_sum rate lengths * baud) ≤ 2 * parts (carried rate lengths) + length lengths * baud
  pub below : 2 * parts (carried rate lengths) ≤ 2 * (rounded_sum rate lengths * baud) + length lengths * baud

-- ---- what each case of an answer gives
-- ---- what is promised
-- of `exact`: the reply; the remainder is below 300, and the rounded answer is the nearest
pub record Measures (rate n : ℕ) (r : Result Measure Refusal) : Type 0 where
  pub reply : reply_in r ≡ exact_reply rate n
  pub below : (m : Measure) → reply_in r ≡ given m → m.exact.remainder < baud
  pub nearest : (m : Measure) → reply_in r ≡ given m → Nearest m.exact m.rounded

-- of `exact_sum`: the reply; "That sum equals the quotient and remainder of the total", and the remainder is below 300
pub record Sums (rate : ℕ) (lengths : List ℕ) (r : Result Duration Refusal) : Type 0 where
  pub reply : reply_in r ≡ sum_reply rate lengths
  pub whole : (d : Duration) → reply_in r ≡ given d → d ≡ exact_of rate (total_bits lengths)
  pub below : (d : Duration) → reply_in r ≡ given d → d.remainder < baud
