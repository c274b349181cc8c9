-- What a resampler does with its samples (resample.rs): one sample in, one sample out, and a whole input. The filter's history is a list
-- here, newest sample first; how the code holds it stands in specs/FlowRep.antt. Assumes nothing.
use Rattle.std.specs.Prelude.{ℕ, zero, suc, ◌-◌, ◌+◌, ◌^◌, ◌≤◌, ◌<◌, Bool, List, [], ◌∷◌, ◌++◌, length, Float, ◌≡◌}
use Rattle.numeric.specs.F64.{◌⊕◌, ◌⊖◌, ◌<ᶠ◌, f64, zero64, one64, two64, whole}
use Rattle.std.specs.Prelude.{if◌then◌else◌}
use Rattle.resampling.specs.Filter.{Window, filtered, newest, hermite_at}
use Rattle.numeric.specs.Bounds.{AtMost}

-- ---- what a resampler is made of
-- what its rates settle: the taps, whether it goes down in rate, and how far the place in the input moves for each output
pub record Filter : Type 0 where
  pub taps : List Float
  pub decimating : Bool
  pub step : Float

-- what moves: the samples that went into the filter (newest first, one for each tap), the window, the place of the next output in the
-- samples that went into the window, and the number of these
pub record Flow : Type 0 where
  pub history : List Float
  pub window : Window
  pub place : Float
  pub count : Float

abbrev pub flow : List Float → Window → Float → Float → Flow
flow h w p n = record { history = h; window = w; place = p; count = n }

-- ---- the interpolation
-- the value at the next output's place: 3.0 back from the count is the place of y1
unfoldable pub between : Flow → Float
between s = hermite_at s.window (s.place ⊖ (s.count ⊖ f64 0x4008_0000_0000_0000))

-- whether the window covers the next output: count - 2.0 > place
unfoldable pub wants : Flow → Bool
wants s = s.place <ᶠ s.count ⊖ two64

-- ---- one sample in, one sample out
-- a sample y into the window, with history h
abbrev pub windowed : Flow → List Float → Float → Flow
windowed s h y =
    flow h (record { y0 = s.window.y1; y1 = s.window.y2; y2 = s.window.y3; y3 = y }) s.place (s.count ⊕ one64)

-- an input sample: going down in rate it passes the filter first
unfoldable pub pushed : Filter → Float → Flow → Flow
pushed f x s =
    if f.decimating
    then windowed s (newest x s.history) (filtered f.taps (newest x s.history))
    else windowed s s.history x

-- an output sample, and what moves
pub record Out : Type 0 where
  pub y : Float
  pub flow : Flow

abbrev pub out_with : Float → Flow → Out
out_with y s = record { y = y; flow = s }

abbrev pub advanced : Filter → List Float → Float → Flow → Out
advanced f h y s = out_with y (flow h s.window (s.place ⊕ f.step) s.count)

-- going up in rate it passes the filter last
unfoldable pub emitted : Filter → Flow → Out
emitted f s =
    if f.decimating
    then advanced f s.history (between s) s
    else advanced f (newest (between s) s.history) (filtered f.taps (newest (between s) s.history)) s

-- ---- a whole input
-- the output samples, in order, and what moved
pub record Ran : Type 0 where
  pub out : List Float
  pub flow : Flow

abbrev pub ran : List Float → Flow → Ran
ran o s = record { out = o; flow = s }

-- every output that the window covers, as far as there is room
unfoldable pub drained : Filter → ℕ → Flow → Ran
drained f zero s = ran [] s
drained f (suc room) s =
    if wants s
    then ran ((emitted f s).y ∷ (drained f room (emitted f s).flow).out) (drained f room (emitted f s).flow).flow
    else ran [] s

-- each sample of the input and the outputs that it makes ready. One after which an output is still ready, for want of room, is the last
-- that is taken, as in the Rust
unfoldable pub fed : Filter → ℕ → List Float → Flow → Ran
fed f room [] s = ran [] s
fed f room (x ∷ xs) s =
    let d = drained f room (pushed f x s) in
    let rest = fed f (room - length d.out) xs d.flow in
    if wants d.flow then d else ran (d.out ++ rest.out) rest.flow

-- ---- a clear window
abbrev pub zero_window : Window
zero_window = record { y0 = zero64; y1 = zero64; y2 = zero64; y3 = zero64 }

-- k samples went in, and the place is at most k - 1
pub record Reached (k : ℕ) (s : Flow) : Type 0 where
  pub count : s.count ≡ whole k
  pub few : k < 2 ^ 52
  pub at : AtMost s.place (k - 1) (2 ^ 0)

-- from k samples on, n more went in at most
pub record Moved (k n : ℕ) (s : Flow) : Type 0 where
  pub to : ℕ
  pub reached : Reached to s
  pub from : k ≤ to
  pub upto : to ≤ k + n
