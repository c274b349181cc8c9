-- Two rates of a resampler, and the taps between them in an array. Assumes nothing.
use Rattle.std.specs.Prelude.{ℕ, ◌≤◌, ◌<◌, ◌≡◌, Bool, false, List, [], take, Float}
use Rattle.std.specs.Prelude.{if◌then◌else◌}
use Rattle.refusal.specs.Refusals.{dsp_rate, highest_rate}
use Rattle.resampling.specs.Design.{most_taps, lowpass}

-- two rates that pass refusal 1
pub record InRange (src dst : ℕ) : Type 0 where
  pub src_low : dsp_rate ≤ src
  pub src_high : src ≤ highest_rate
  pub dst_low : dsp_rate ≤ dst
  pub dst_high : dst ≤ highest_rate

-- n is the number of taps, and the first n of the array are they, between rates that are equal or not, the faster being fs
pub record TapsFor (identity : Bool) (fs n : ℕ) (taps : List Float) : Type 0 where
  pub high : n ≤ most_taps
  pub some : identity ≡ false → 0 < n
  pub are : take n taps ≡ if identity then [] else lowpass fs
