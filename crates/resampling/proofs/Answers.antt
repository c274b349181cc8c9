-- What the resampler's public functions give, by the tests that lead there. Assumes nothing.
use Prim.Native.Nat.{ℕ, max, ◌+◌, ◌-◌, ◌<◌, ◌≤◌}
use mathlib.Core.Path.{◌≡◌, refl, sym, ap, ◌∙◌}
use mathlib.Core.Bool.{Bool, true, false, not, ◌||◌, true≢false}
use mathlib.Core.List.{List, ◌++◌}
use native.Mathlib.Omega.{arith}
use borrow.Author.Tests.{lt-ltb, le-ltb, ltb-false}
use lib.Dec.{eqb, ltb}
use lib.ListN.{length, take, drop, replicate}
use lib.Seq.{length-take-le, sets-eq}
use lib.Ieee.{Float}
use Rattle.numeric.specs.Convert.{all_in_range}
use Rattle.resampling.specs.Design.{most_taps}
use Rattle.numeric.specs.F64.{zero64}
use Rattle.refusal.specs.Refusals.{given, refused, first, rate_refused, rates_refused, dsp_rate, highest_rate}
use Rattle.resampling.specs.Flow.{Filter, Flow, Ran, flow, fed, zero_window}
use Rattle.resampling.specs.Resample.{State, state, faster, taps_of, filter_of, fresh, max_output_len, too_many, Outcome, outcome, refusal_of, ran_over, ran_into, processed}
use Rattle.resampling.specs.FilterRep.{history_of}
use Rattle.resampling.specs.FlowRep.{filter_in, Run, run, into, fed_into, Copied}
use Rattle.resampling.specs.Rates.{InRange, TapsFor}
use Rattle.resampling.specs.declared.resample.Resampler.{Resampler}
use Rattle.resampling.proofs.Ring.{history-same}
use Rattle.resampling.proofs.FlowLaws.{fed-length}

-- ---- rates that are not refused are in range
neither : (a b : Bool) → a || b ≡ false → (a ≡ false) × (b ≡ false)
neither true b e = absurd (true≢false e)
neither false b e = (refl, e)

pub in-range : (src dst : ℕ) → rates_refused src dst ≡ false → InRange src dst
unfolding rates_refused rate_refused
in-range src dst e =
    let r = (neither (ltb src dsp_rate || ltb highest_rate src || (ltb dst dsp_rate || ltb highest_rate dst)) _ e).0 in
    let both = neither (ltb src dsp_rate || ltb highest_rate src) (ltb dst dsp_rate || ltb highest_rate dst) r in
    let s = neither (ltb src dsp_rate) (ltb highest_rate src) both.0 in
    let d = neither (ltb dst dsp_rate) (ltb highest_rate dst) both.1 in
    record { src_low = ltb-false _ _ s.0; src_high = ltb-false _ _ s.1; dst_low = ltb-false _ _ d.0; dst_high = ltb-false _ _ d.1 }

-- ---- the taps of a fresh state
pub taps-are : (src dst : ℕ) {fs n : ℕ} {taps : List Float} → fs ≡ max src dst → TapsFor (eqb src dst) fs n taps → take n taps ≡ taps_of src dst
unfolding taps_of faster
taps-are src dst e t = rw (← e) t.are

-- ---- a cleared state
pub fresh-is : (src dst n : ℕ) (taps : List Float) → n ≤ most_taps → length taps ≡ most_taps → take n taps ≡ taps_of src dst
    → state src dst (flow (history_of n 0 (replicate most_taps zero64)) zero_window zero64 zero64) ≡ fresh src dst
unfolding fresh
fresh-is src dst n taps h l e =
    let k : length (taps_of src dst) ≡ n = ap length (sym e) ∙ length-take-le n taps (omega arith) in
    rw (history-same zero64 n most_taps h, k)

-- ---- the filter that a state holds
pub filter-is : (r : Resampler) → filter_in r.n_taps r.taps r.decimating r.step ≡ filter_of r.src_rate r.dst_rate
unfolding filter_of
filter-is r = rw (r.are, r.down, r.quotient)

-- ---- `run` and `process`
-- a whole input's samples stand at the front of the output
whole_run : (f : Filter) (xs : List Float) (s : Flow) (o : List Float)
    → let r = fed f (length o) xs s in fed_into f xs (run s o 0) ≡ run r.flow (r.out ++ drop (length r.out) o) (length r.out)
unfolding fed_into
whole_run f xs s o = rw (same (length o)) (laid (fed f (length o) xs s) (fed-length f (length o) xs s))
  where
    same : (n : ℕ) → n - 0 ≡ n
    same n = omega arith

    laid : (r : Ran) → length r.out ≤ length o → into o 0 r ≡ run r.flow (r.out ++ drop (length r.out) o) (length r.out)
    laid r h =
        let z : 0 + length r.out ≡ length r.out = omega arith in
        rw (sets-eq r.out o 0 (omega arith), z)

module _ (s : State) (xs o : List Float) where
  pub too_long : 2048 < length xs → outcome (refused 3) s o ≡ processed s xs o
  unfolding processed refusal_of too_many first
  too_long h = rw (lt-ltb _ _ h)

  pub copied-into : (o' : List Float) (n : ℕ) → eqb s.src s.dst ≡ true → Copied xs o o' n → outcome (given n) s o' ≡ ran_into s xs o
  unfolding ran_over
  copied-into o' n e c = rw (e, c.are, c.count_is)

  pub ran-into : (f : Filter) (t : Run) → f ≡ filter_of s.src s.dst → eqb s.src s.dst ≡ false → t ≡ fed_into f xs (run s.flow o 0)
      → outcome (given t.at) (state s.src s.dst t.flow) t.out ≡ ran_into s xs o
  unfolding ran_over
  ran-into f t ef e et = rw (e, et, ef, whole_run (filter_of s.src s.dst) xs s.flow o)

  -- r is what the test of the samples gave
  module _ (short : length xs ≤ 2048) (r : Bool) (tested : r ≡ all_in_range xs) where
    pub wild : not r ≡ true → outcome (refused 43) s o ≡ processed s xs o
    unfolding processed refusal_of too_many first
    wild w = rw (le-ltb _ _ short, ← tested, w)

    module _ (tame : not r ≡ false) (b : ℕ) (is : b ≡ max_output_len s.src s.dst (length xs)) where
      pub no_room : length o < b → outcome (refused 5) s o ≡ processed s xs o
      unfolding processed refusal_of too_many first
      no_room h = rw (le-ltb _ _ short, ← tested, tame, ← is, lt-ltb _ _ h)

      pub went : (p : Outcome) → b ≤ length o → p ≡ ran_into s xs o → p ≡ processed s xs o
      unfolding processed refusal_of too_many first
      went p room e = rw (le-ltb _ _ short, ← tested, tame, ← is, le-ltb _ _ room) e
