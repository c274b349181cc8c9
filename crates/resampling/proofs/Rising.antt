-- Going up in rate: samples that pass the filter together at the end are those that pass it one by one. Assumes nothing.
use Prim.Native.Nat.{ℕ, zero, suc, ◌+◌, ◌-◌, ◌≤◌}
use mathlib.Core.Path.{◌≡◌, refl, ap, ◌∙◌}
use mathlib.Core.Bool.{Bool, true, false}
use mathlib.Core.List.{List, [], ◌∷◌, ◌++◌}
use native.Mathlib.Omega.{arith}
use lib.ListN.{length, take, drop, length-append}
use lib.Seq.{sets, sets-eq, length_front, length-take-le, take_at, drop_at, drop-drop}
use lib.Ieee.{Float}
use Rattle.std.specs.Prelude.{if◌then◌else◌}
use Rattle.resampling.specs.Filter.{filtered, newest, filtered_all, history_after}
use Rattle.resampling.specs.FilterRep.{history_of, AllFiltered}
use Rattle.resampling.proofs.FilterLaws.{filtered-length, filtered-append, after-append}
use Rattle.resampling.specs.Flow.{Filter, Flow, Ran, ran, wants, between, windowed, pushed, emitted, drained}
use Rattle.resampling.proofs.FlowLaws.{drained-length}
use Rattle.resampling.specs.FlowRep.{flow_of, Run, run, drained_into, with_history, through_filter}
use Rattle.resampling.specs.declared.sample.Moving.{Moving}

-- stores behind a front
sets_behind : (front back vs : List Float) (at : ℕ) → length front ≡ at → at + length vs ≤ length (front ++ back) → sets (front ++ back) at vs ≡ front ++ vs ++ drop (length vs) back
sets_behind front back vs at e h =
    rw (sets-eq vs (front ++ back) at h, take_at front back at e, ← drop-drop (length vs) at (front ++ back), drop_at front back at e)

module _ (taps : List Float) (step : Float) where
  -- the filter going up in rate
  abbrev up : Filter
  up = record { taps = taps; decimating = false; step = step }

  -- the same with no filter at the outputs
  abbrev plain : Filter
  plain = record { taps = taps; decimating = true; step = step }

  -- outputs, once they passed the filter from history h on
  abbrev through : List Float → Ran → Ran
  through h r = ran (filtered_all taps h r.out) (with_history (history_after h r.out) r.flow)

  -- neither the outputs' number nor their places depend on the history
  drained-through : (room : ℕ) (h : List Float) (s : Flow) → drained up room (with_history h s) ≡ through h (drained plain room s)
  unfolding drained emitted between wants filtered_all history_after
  drained-through zero h s = refl
  drained-through (suc room) h s = by (wants s) (drained-through room h' s')
    where
      h' : List Float
      h' = newest (between s) h

      s' : Flow
      s' = (emitted plain s).flow

      by : (b : Bool) → drained up room (with_history h' s') ≡ through h' (drained plain room s')
          → (if b then ran (filtered taps h' ∷ (drained up room (with_history h' s')).out) (drained up room (with_history h' s')).flow else ran [] (with_history h s))
          ≡ through h (if b then ran (between s ∷ (drained plain room s').out) (drained plain room s').flow else ran [] s)
      by true e = ap (λ (d : Ran). ran (filtered taps h' ∷ d.out) d.flow) e
      by false e = refl

  -- the same over a lent output
  module _ (h : List Float) (s : Flow) (out : List Float) (at : ℕ) (fits : at ≤ length out) where
    drain-through : through_filter taps h (drained_into plain (run s out at)) ≡ drained_into up (through_filter taps h (run s out at))
    unfolding through_filter drained_into
    drain-through =
        let d = (drained plain (length out - at) s).out in
        let k : at + length d ≤ length out = omega (arith, drained-length plain (length out - at) s) in
        let ys = take at out in
        let front = filtered_all taps h ys in
        let vs = filtered_all taps (history_after h ys) d in
        let y : length ys ≡ at = length-take-le at out fits in
        let a : length (ys ++ d) ≡ at + length d = length-append ys d ∙ ap (λ (i : ℕ). i + length d) y in
        let f : length front ≡ length ys = filtered-length taps h ys in
        let b : length (front ++ drop at out) ≡ length out = length_front out front at f in
        let v : length vs ≡ length d = filtered-length taps (history_after h ys) d in
        rw (
          sets-eq d out at k,
          take_at _ _ _ a,
          drop_at _ _ _ a,
          b,
          drained-through,
          filtered-append,
          after-append,
          sets_behind front (drop at out) vs at (f ∙ y) (rw (v, b) k),
          v,
          drop-drop,
        )

    -- a sample x went into the window, and t is the run after its outputs
    pub interpolated-turn : (x : Float) (g : List Float) (s' : Flow) (t : Run) → s ≡ windowed s' g x → t ≡ drained_into plain (run s out at)
        → through_filter taps h t ≡ drained_into up (run (pushed up x (through_filter taps h (run s' out at)).flow) (through_filter taps h (run s' out at)).out at)
    unfolding through_filter pushed
    interpolated-turn x g s' t e q = ap (through_filter taps h) q ∙ drain-through ∙ ap (λ (u : Flow). drained_into up (through_filter taps h (run u out at))) e

-- the samples of a run passed the filter in place, over the code's ring
pub filtered-run : {n pos p : ℕ} {taps ring ring' ys : List Float} (m : Moving) (out : List Float) (at : ℕ) → AllFiltered n pos p taps (take at out) ring ring' ys
    → run (flow_of n ring' (record { fir_pos = p; herm_hist = m.herm_hist; frac_pos = m.frac_pos; n_pushed = m.n_pushed })) (ys ++ drop at out) at
    ≡ through_filter (take n taps) (history_of n pos ring) (run (flow_of n ring m) out at)
unfolding flow_of through_filter
filtered-run m out at a = rw (a.history, a.values)
