-- How the code's `Resampler` holds what specs/Resample.antt speaks of, and the invariant of its states. Assumes nothing.
use Rattle.std.specs.Prelude.{ℕ, ◌≤◌, ◌<◌, ◌≡◌, false, List, length, take, ltb, eqb, Float}
use Rattle.numeric.specs.F64.{◌⊘◌, whole}
use Rattle.resampling.specs.FlowRep.{flow_of}
use Rattle.resampling.specs.Resample.{State, state, taps_of, Outcome, outcome}
use Rattle.resampling.specs.Design.{most_taps}
use Rattle.refusal.specs.Refusals.{given, reply_in}
pub use Rattle.resampling.specs.Rates.{InRange, TapsFor}
use Rattle.refusal.specs.declared.Answered.{Answered}
use Rattle.refusal.specs.declared.Counting.{Counting}
use Rattle.resampling.specs.declared.resample.Resampler.{Resampler}

-- what `Resampler` is in the definitions
unfoldable pub state_of : Resampler → State
state_of r = state r.src_rate r.dst_rate (flow_of r.n_taps r.fir_hist r.moving)

-- what `run` and `process` gave, with the output that they leave
abbrev pub produced_of : Counting Resampler → List Float → Outcome
produced_of p out = outcome (given p.count) (state_of p.state) out

abbrev pub outcome_of : Answered Resampler ℕ → List Float → Outcome
outcome_of p out = outcome (reply_in p.answer) (state_of p.state) out

-- what each value of the type keeps (proofs/ResampleLaws.antt, sound-of)
pub record Sound (r : Resampler) : Type 0 where
  pub rates : InRange r.src_rate r.dst_rate
  pub identity : r.identity ≡ eqb r.src_rate r.dst_rate
  pub decimating : r.decimating ≡ ltb r.dst_rate r.src_rate
  pub step : r.step ≡ whole r.src_rate ⊘ whole r.dst_rate
  pub high : r.n_taps ≤ most_taps
  pub taps : take r.n_taps r.taps ≡ taps_of r.src_rate r.dst_rate
  pub taps_long : length r.taps ≡ most_taps
  pub ring_long : length r.fir_hist ≡ most_taps
  pub place : r.identity ≡ false → r.moving.fir_pos < r.n_taps
