-- One call between two places of a list of calls, as the code holds them. Assumes nothing.
use Rattle.std.specs.Prelude.{ℕ, ◌+◌, ◌≤◌, ◌≡◌, List, ◌++◌, length, take, drop, Float}
use Rattle.resampling.specs.Resample.{Outcome}
use Rattle.resampling.specs.ResampleRep.{state_of}
use Rattle.calls.specs.Answers.{count_in, reply}
use Rattle.calls.specs.Resample.{called, samples_for}
use Rattle.calls.specs.declared.resample.Place.{Place}

-- a place within the input and the output
pub record Within (p : Place) (xs out : List Float) : Type 0 where
  pub read : p.read ≤ length xs
  pub written : p.written ≤ length out

-- what the call at p gives
abbrev pub outcome_at : Place → ℕ → ℕ → List Float → List Float → Outcome
outcome_at p kind n xs out = called kind (state_of p.state) (take (samples_for kind n) (drop p.read xs)) (drop p.written out)

-- a call leads from p to q, and from out to out' and ans', where the answers were before, two numbers, and behind
pub record Stepped (p q : Place) (kind n : ℕ) (xs out out' : List Float) (before behind ans' : List ℕ) : Type 0 where
  pub state : state_of q.state ≡ (outcome_at p kind n xs out).state
  pub left : drop q.read xs ≡ drop (samples_for kind n) (drop p.read xs)
  pub written : q.written ≡ p.written + count_in (outcome_at p kind n xs out).answer
  pub output : out' ≡ take p.written out ++ (outcome_at p kind n xs out).out
  pub answers : ans' ≡ before ++ (reply (outcome_at p kind n xs out).answer ++ behind)
