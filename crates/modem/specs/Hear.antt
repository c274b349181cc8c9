-- A call's samples, resampled. Assumes nothing.
use Rattle.std.specs.Prelude.{ℕ, ◌≡◌, List, length, take, Float}
use Rattle.resampling.specs.Flow.{Ran}
use Rattle.resampling.specs.Resample.{State, state, max_output_len, ran_over}
use Rattle.resampling.specs.ResampleRep.{state_of}
use Rattle.resampling.specs.declared.resample.Resampler.{Resampler}

-- the samples at 8,000 Hz that a list of samples makes, with the room that `max_output_len` gives
unfoldable pub resampled : State → List Float → Ran
resampled s xs = ran_over s (max_output_len s.src s.dst (length xs)) xs

-- a call's samples resampled: the first n of `after`, and the resampler afterwards
pub record Resamples (before : Resampler) (xs : List Float) (r : Resampler) (n : ℕ) (after : List Float) : Type 0 where
  pub samples : take n after ≡ (resampled (state_of before) xs).out
  pub count : n ≡ length (resampled (state_of before) xs).out
  pub state : state_of r ≡ state before.src_rate before.dst_rate (resampled (state_of before) xs).flow
  pub rate : r.dst_rate ≡ before.dst_rate
  pub places : length after ≡ 1026
