-- How the code holds what specs/Flow.antt speaks of, and a run that writes into a lent output. Assumes nothing.
use Rattle.std.specs.Prelude.{ℕ, ◌+◌, ◌-◌, ◌≡◌, Bool, true, false, List, ◌++◌, length, take, drop, Float}
use Rattle.std.proofs.lemmas.List.Edits.{sets}
use Rattle.resampling.specs.Filter.{filtered_all, history_after}
use Rattle.resampling.specs.FilterRep.{history_of, window_of}
use Rattle.resampling.specs.Flow.{Filter, Flow, Ran, flow, pushed, out_with, emitted, drained, fed}
use Rattle.resampling.specs.declared.sample.Moving.{Moving}
use Rattle.resampling.specs.declared.sample.Emitted.{Emitted}
use Rattle.resampling.specs.declared.feed.Drained.{Drained}

unfoldable pub flow_of : ℕ → List Float → Moving → Flow
flow_of n ring m = flow (history_of n m.fir_pos ring) (window_of m.herm_hist) m.frac_pos m.n_pushed

-- the first n of the array of taps are the filter's
abbrev pub filter_in : ℕ → List Float → Bool → Float → Filter
filter_in n taps d step = record { taps = take n taps; decimating = d; step = step }

-- ---- one sample in, one sample out
-- going down in rate, the sample x put m and ring on to m' and ring': it went through the filter and into the window
abbrev pub OnePushed : ℕ → List Float → Float → Moving → List Float → Moving → List Float → Type 0
OnePushed n taps x m ring m' ring' = (step : Float) → flow_of n ring' m' ≡ pushed (filter_in n taps true step) x (flow_of n ring m)

-- r is the next output sample from m on, before the filter, and what moved; so for every filter and ring
abbrev pub OneEmitted : Float → Moving → Emitted → Type 0
OneEmitted step m r =
    (n : ℕ) → (taps ring : List Float) → out_with r.y (flow_of n ring r.moving) ≡ emitted (filter_in n taps true step) (flow_of n ring m)

-- ---- a run that writes into a lent output: what moved, the output, and how much of it is written
pub record Run : Type 0 where
  pub flow : Flow
  pub out : List Float
  pub at : ℕ

abbrev pub run : Flow → List Float → ℕ → Run
run s o k = record { flow = s; out = o; at = k }

-- the samples of r behind the first `at` of the output
abbrev pub into : List Float → ℕ → Ran → Run
into out at r = run r.flow (sets out at r.out) (at + length r.out)

unfoldable pub drained_into : Filter → Run → Run
drained_into f t = into t.out t.at (drained f (length t.out - t.at) t.flow)

unfoldable pub fed_into : Filter → List Float → Run → Run
fed_into f xs t = into t.out t.at (fed f (length t.out - t.at) xs t.flow)

-- m and out, whose first `from` are written, drained of every output sample that the window covers, as far as there is room: r and out'
abbrev pub AllDrained : Float → Moving → List Float → ℕ → Drained → List Float → Type 0
AllDrained step m out from r out' =
    (n : ℕ) → (taps ring : List Float) → run (flow_of n ring r.moving) out' r.at ≡ drained_into (filter_in n taps true step) (run (flow_of n ring m) out from)

-- m, ring and out, whose first `from` are written, fed the samples xs, as far as there is room for what these make ready: r, ring' and out'
abbrev pub AllFed : ℕ → List Float → Bool → Float → List Float → Moving → List Float → List Float → ℕ → Drained → List Float → List Float → Type 0
AllFed n taps d step xs m ring out from r ring' out' =
    run (flow_of n ring' r.moving) out' r.at ≡ fed_into (filter_in n taps d step) xs (run (flow_of n ring m) out from)

-- ---- going up in rate
-- what moves, with another history
abbrev pub with_history : List Float → Flow → Flow
with_history h s = flow h s.window s.place s.count

-- a run whose samples did not pass the filter yet, and the same once they did, from history h on
unfoldable pub through_filter : List Float → List Float → Run → Run
through_filter taps h t =
    run (with_history (history_after h (take t.at t.out)) t.flow) (filtered_all taps h (take t.at t.out) ++ drop t.at t.out) t.at

-- going up in rate, m and out fed the samples xs, but for the filter: r and out', whose written samples have yet to pass it
abbrev pub AllInterpolated : Float → List Float → Moving → List Float → Drained → List Float → Type 0
AllInterpolated step xs m out r out' =
    (n : ℕ) → (taps ring : List Float) →
    through_filter (take n taps) (history_of n m.fir_pos ring) (run (flow_of n ring r.moving) out' r.at)
    ≡ fed_into (filter_in n taps false step) xs (run (flow_of n ring m) out 0)

-- ---- equal rates
-- xs stands at the front of the output, as far as there is room: count samples of it
pub record Copied (xs out out' : List Float) (count : ℕ) : Type 0 where
  pub are : out' ≡ take (length out) xs ++ drop count out
  pub count_is : count ≡ length (take (length out) xs)
