-- The resampler (resample.rs) between 8,000 and another rate. What it does with its samples is said in specs/Flow.antt, and how the
-- code holds its state in specs/ResampleRep.antt. Assumes nothing.
use Rattle.std.specs.Prelude.{ℕ, zero, suc, Bool, not, List, [], ◌++◌, length, take, drop, replicate, max, ltb, eqb, Float}
use Rattle.numeric.specs.F64.{◌⊘◌, whole, zero64}
use Rattle.std.specs.Prelude.{if◌then◌else◌}
use Rattle.numeric.specs.Counts.{output_len}
use Rattle.numeric.specs.Convert.{all_in_range}
use Rattle.resampling.specs.Design.{lowpass}
use Rattle.resampling.specs.Flow.{Filter, Flow, flow, Ran, ran, fed, zero_window}
use Rattle.refusal.specs.Refusals.{Reply, given, refused, first, rates_refused, dsp_rate}

-- ---- what a resampler is made of
-- a resampler between two rates
pub record State : Type 0 where
  pub src : ℕ
  pub dst : ℕ
  pub flow : Flow

abbrev pub state : ℕ → ℕ → Flow → State
state s d f = record { src = s; dst = d; flow = f }

-- ---- the rates
-- the filter runs at the faster rate
unfoldable pub faster : ℕ → ℕ → ℕ
faster a b = max a b

abbrev pub equal_rates : State → Bool
equal_rates s = eqb s.src s.dst

-- equal rates have no taps
unfoldable pub taps_of : ℕ → ℕ → List Float
taps_of src dst = if eqb src dst then [] else lowpass (faster src dst)

-- "Rates are whole numbers, handed to the Rust as f64"
unfoldable pub filter_of : ℕ → ℕ → Filter
filter_of src dst = record { taps = taps_of src dst; decimating = ltb dst src; step = whole src ⊘ whole dst }

-- ---- the public functions
-- filter history, window, place and count all clear
unfoldable pub fresh : ℕ → ℕ → State
fresh src dst = state src dst (flow (replicate (length (taps_of src dst)) zero64) zero_window zero64 zero64)

-- what `new` gives
pub record Made : Type 0 where
  pub answer : Reply Unit
  pub state : State

abbrev pub made : Reply Unit → State → Made
made a s = record { answer = a; state = s }

-- refused 1 it gives a state all the same, the one at equal rates of 8,000
unfoldable pub new_of : ℕ → ℕ → Made
new_of src dst = if rates_refused src dst then made (refused 1) (fresh dsp_rate dsp_rate) else made (given tt) (fresh src dst)

-- `reset` gives the state as it was made
abbrev pub reset_of : State → State
reset_of s = fresh s.src s.dst

-- round(n × dst / src) + 2, and n where the rates are equal: "0 gives 2, or 0 on equal rates"
unfoldable pub max_output_len : ℕ → ℕ → ℕ → ℕ
max_output_len src dst n = if eqb src dst then n else output_len n src dst

-- "3 more than 1,024 samples (2,048 for the resampler and its max_output_len)"
unfoldable pub too_many : ℕ → Bool
too_many n = ltb 2048 n

unfoldable pub len_of : State → ℕ → Reply ℕ
len_of s n = if too_many n then refused 3 else given (max_output_len s.src s.dst n)

-- what `process` gives: its answer, the state, and the lent output
pub record Outcome : Type 0 where
  pub answer : Reply ℕ
  pub state : State
  pub out : List Float

abbrev pub outcome : Reply ℕ → State → List Float → Outcome
outcome a s o = record { answer = a; state = s; out = o }

-- "3 more than 2,048 samples. 5 resampler output shorter than max_output_len"; K8: "43 for a sample not finite or beyond ±1, after 3 and before 5"
unfoldable pub refusal_of : State → List Float → List Float → ℕ
refusal_of s xs out =
    first (too_many (length xs)) 3
    (first (not (all_in_range xs)) 43
    (first (ltb (length out) (max_output_len s.src s.dst (length xs))) 5 0))

-- the samples that an input makes, as far as there is room, "Equal rates copy"
unfoldable pub ran_over : State → ℕ → List Float → Ran
ran_over s room xs = if eqb s.src s.dst then ran (take room xs) s.flow else fed (filter_of s.src s.dst) room xs s.flow

-- they stand at the front of the output, and what is behind them stays
abbrev pub laid : State → List Float → Ran → Outcome
laid s out r = outcome (given (length r.out)) (state s.src s.dst r.flow) (r.out ++ drop (length r.out) out)

-- what `run` gives, which refuses nothing
abbrev pub ran_into : State → List Float → List Float → Outcome
ran_into s xs out = laid s out (ran_over s (length out) xs)

-- "A refused call returns its number alone and leaves state and buffers untouched"
abbrev pub unless_refused : ℕ → State → List Float → Outcome → Outcome
unless_refused zero s out accepted = accepted
unless_refused (suc k) s out accepted = outcome (refused (suc k)) s out

unfoldable pub processed : State → List Float → List Float → Outcome
processed s xs out = unless_refused (refusal_of s xs out) s out (ran_into s xs out)
