-- The samples of a call. One type of floats serves f32 and f64, so the samples widened are the same list. Assumes nothing.
use Rattle.std.specs.Prelude.{◌≡◌, List, Float, length, take, drop}

-- the samples stand at the front of an array, the rest of which is as it was
pub record Widened (samples before after : List Float) : Type 0 where
  pub front : take (length samples) after ≡ samples
  pub rest : drop (length samples) after ≡ drop (length samples) before
  pub places : length after ≡ length before
