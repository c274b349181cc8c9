-- The resampler's filter over a history, newest sample first, and the interpolation between samples. Assumes nothing.
use Rattle.std.specs.Prelude.{List, [], ◌∷◌, length, take, Float}
use Rattle.numeric.specs.F64.{◌⊕◌, ◌⊖◌, ◌⊗◌, f64, zero64, half64, two64}

-- ---- the filter
-- the sum of the products of taps and history, first to last, from acc on
unfoldable pub sum_from : Float → List Float → List Float → Float
sum_from acc [] h = acc
sum_from acc (t ∷ ts) [] = acc
sum_from acc (t ∷ ts) (x ∷ h) = sum_from (acc ⊕ t ⊗ x) ts h

-- "Sums start at 0.0"
unfoldable pub filtered : List Float → List Float → Float
filtered taps h = sum_from zero64 taps h

-- the history with one sample more, as long as before: the oldest goes
unfoldable pub newest : Float → List Float → List Float
newest x h = take (length h) (x ∷ h)

-- a list of samples through the filter, oldest first, from history h on: what comes out, and the history after them
unfoldable pub filtered_all : List Float → List Float → List Float → List Float
filtered_all taps h [] = []
filtered_all taps h (x ∷ xs) = filtered taps (newest x h) ∷ filtered_all taps (newest x h) xs

unfoldable pub history_after : List Float → List Float → List Float
history_after h [] = h
history_after h (x ∷ xs) = history_after (newest x h) xs

-- ---- the interpolation
-- the four newest samples before the interpolation, oldest first
pub record Window : Type 0 where
  pub y0 : Float
  pub y1 : Float
  pub y2 : Float
  pub y3 : Float

-- four-point cubic Hermite between y1 and y2, at t of the way
unfoldable pub hermite_at : Window → Float → Float
hermite_at w t =
    let c1 = half64 ⊗ (w.y2 ⊖ w.y0) in
    let c2 = w.y0 ⊖ f64 0x4004_0000_0000_0000 ⊗ w.y1 ⊕ two64 ⊗ w.y2 ⊖ half64 ⊗ w.y3 in
    let c3 = half64 ⊗ (w.y3 ⊖ w.y0) ⊕ f64 0x3FF8_0000_0000_0000 ⊗ (w.y1 ⊖ w.y2) in
    ((c3 ⊗ t ⊕ c2) ⊗ t ⊕ c1) ⊗ t ⊕ w.y1
