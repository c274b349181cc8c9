-- The resampler's state as lists of f64, for comparisons bit for bit. Assumes nothing.
use Rattle.std.specs.Prelude.{◌-◌, List, [], ◌∷◌, ◌++◌, length, replicate, Float}
use Rattle.numeric.specs.F64.{◌⊘◌, whole, zero64}
use Rattle.resampling.specs.Design.{most_taps}
use Rattle.resampling.specs.Resample.{State, taps_of}

-- a place for each tap that there can be, those that the rates do not use 0.0
abbrev pub filter_places : List Float → List Float
filter_places xs = xs ++ replicate (most_taps - length xs) zero64

-- the taps; the filter's history, newest first
abbrev pub tap_numbers : State → List Float
tap_numbers s = filter_places (taps_of s.src s.dst)

abbrev pub history_numbers : State → List Float
history_numbers s = filter_places s.flow.history

-- the window of four; place, count and step
abbrev pub window_numbers : State → List Float
window_numbers s =
    s.flow.window.y0 ∷ s.flow.window.y1 ∷ s.flow.window.y2 ∷ s.flow.window.y3
    ∷ s.flow.place ∷ s.flow.count ∷ whole s.src ⊘ whole s.dst ∷ []
