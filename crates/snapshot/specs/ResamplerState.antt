-- The resampler's state behind a script of its calls. Assumes nothing.
use Rattle.std.specs.Prelude.{ℕ, List, ◌++◌, ltb, length, drop, Float}
use Rattle.std.specs.Prelude.{if◌then◌else◌}
use Rattle.refusal.specs.Refusals.{Reply, given, refused}
use Rattle.resampling.specs.Resample.{State}
use Rattle.calls.specs.Resample.{Run, script_run}
use Rattle.snapshot.specs.ReceiverState.{resampler_numbers, resampler_length}

-- 753 numbers at the front of a list; one that is shorter stays as it was
abbrev pub resampler_shown : State → List Float → List Float
resampler_shown s l = if ltb (length l) resampler_length then l else resampler_numbers s ++ drop resampler_length l

-- where `new` refuses, nothing is shown
abbrev pub shown_after : Reply Unit → State → List Float → List Float
shown_after (given u) s l = resampler_shown s l
shown_after (refused k) s l = l

-- what the function leaves: the run, and the lent list
pub record Traced : Type 0 where
  pub run : Run Float
  pub state : List Float

abbrev pub traced : Run Float → List Float → Traced
traced r l = record { run = r; state = l }

-- the calls of the script, and the state behind them
unfoldable pub resampler_run : ℕ → ℕ → List Float → List ℕ → List Float → List ℕ → List Float → Traced
resampler_run src dst xs script out ans l =
    let s = script_run src dst xs script out ans in
    traced s.run (shown_after s.answer s.state l)
