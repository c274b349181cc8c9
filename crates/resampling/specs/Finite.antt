-- K8: "every accepted answer is bit for bit that of the Rust, so no bits are left free". Only a NaN's bits are free in the definitions, so this says
-- of every list of calls from a fresh resampler on that no NaN, and no infinity, comes out or is kept. Assumes nothing.
use Rattle.std.specs.Prelude.{ℕ, Bool, true, ◌&&◌, List, [], ◌∷◌, T, take, Float}
use Rattle.std.specs.Float.Ieee.Scale.{finite}
use Rattle.refusal.specs.Refusals.{Reply, given, refused}
use Rattle.resampling.specs.Filter.{Window}
use Rattle.resampling.specs.Resample.{State, Outcome, outcome, fresh, reset_of, processed}

-- ---- a list of calls
-- `process` with its samples and the lent output, or `reset`; `max_output_len` changes nothing
pub data Call : Type 0 where
  process : List Float → List Float → Call
  reset : Call

abbrev pub gives : State → Call → Outcome
gives s (process xs out) = processed s xs out
gives s reset = outcome (given 0) (reset_of s) []

-- the resampler behind a list of calls
unfoldable pub behind : State → List Call → State
behind s [] = s
behind s (c ∷ cs) = behind (gives s c).state cs

-- the samples that a call wrote: as many as it answers, and none where it is refused
abbrev pub written_by : Reply ℕ → List Float → List Float
written_by (given n) out = take n out
written_by (refused k) out = []

-- ---- no NaN and no infinity
unfoldable pub all_finite : List Float → Bool
all_finite [] = true
all_finite (x ∷ xs) = finite x && all_finite xs

abbrev pub window_list : Window → List Float
window_list w = w.y0 ∷ w.y1 ∷ w.y2 ∷ w.y3 ∷ []

-- all that a state keeps
pub record FiniteState (s : State) : Type 0 where
  pub history : T (all_finite s.flow.history)
  pub window : T (all_finite (window_list s.flow.window))
  pub place : T (finite s.flow.place)
  pub count : T (finite s.flow.count)

-- behind the calls cs: the state, and what any next call writes
pub record FiniteBehind (src dst : ℕ) (cs : List Call) : Type 0 where
  pub state : FiniteState (behind (fresh src dst) cs)
  pub samples : (c : Call) → let o = gives (behind (fresh src dst) cs) c in T (all_finite (written_by o.answer o.out))
