-- The resampler's low-pass filter (`design_lowpass`): a sinc cut off at 3,600 Hz under a Blackman window, 62/8000 s long. Assumes nothing.
use Rattle.std.specs.Prelude.{ℕ, ◌-◌, List, map, Float}
use Rattle.numeric.specs.F64.{◌⊕◌, ◌⊖◌, ◌⊗◌, ◌⊘◌, ◌<ᶠ◌, f64, whole, zero64, half64, two64, tau, pi, magnitude}
use Rattle.std.specs.Prelude.{if◌then◌else◌}
use Rattle.numeric.specs.Sine.{sine_of, cosine_of}
use Rattle.numeric.specs.Counts.{tap_count}
use Rattle.numeric.specs.Fold.{fold, tabulate}

-- as many taps at most: those at the highest rate
abbrev pub most_taps : ℕ
most_taps = 373

-- 62/8000 s
abbrev pub span_seconds : Float
span_seconds = f64 0x404F_0000_0000_0000 ⊘ f64 0x40BF_4000_0000_0000

-- 3,600 Hz, or 0.49 of the rate where that is less
unfoldable pub cutoff_of : Float → Float
cutoff_of fs =
    let cutoff_hz = f64 0x40AC_2000_0000_0000 in
    let share = f64 0x3FDF_5C28_F5C2_8F5C in
    if fs ⊗ share <ᶠ cutoff_hz then fs ⊗ share else cutoff_hz

-- sin(TAU × cutoff × t) / (PI × t), and 2 × cutoff where |t| < 1e-12
unfoldable pub sinc : Float → Float → Float
sinc cutoff t =
    if magnitude t <ᶠ f64 0x3D71_9799_812D_EA11
    then two64 ⊗ cutoff
    else sine_of (tau ⊗ cutoff ⊗ t) ⊘ (pi ⊗ t)

-- 0.42 - 0.5 × cos(TAU × x) + 0.08 × cos(2 × TAU × x)
unfoldable pub blackman : Float → Float
blackman x =
    f64 0x3FDA_E147_AE14_7AE1 ⊖ half64 ⊗ cosine_of (tau ⊗ x) ⊕ f64 0x3FB4_7AE1_47AE_147B ⊗ cosine_of (two64 ⊗ tau ⊗ x)

-- tap i of n, before they are scaled: the sinc at i/rate - span/2 under the window at i/(n - 1)
unfoldable pub raw_tap : ℕ → ℕ → Float
raw_tap fs i =
    let t = whole i ⊘ whole fs ⊖ span_seconds ⊘ two64 in
    sinc (cutoff_of (whole fs)) t ⊗ blackman (whole i ⊘ whole (tap_count fs - 1))

unfoldable pub raw_taps : ℕ → List Float
raw_taps fs = tabulate (raw_tap fs) (tap_count fs)

-- "Sums start at 0.0"
unfoldable pub total : List Float → Float
total xs = fold ◌⊕◌ zero64 xs

-- the taps at a rate: each divided by their sum
unfoldable pub lowpass : ℕ → List Float
lowpass fs = map (λ x. x ⊘ total (raw_taps fs)) (raw_taps fs)
