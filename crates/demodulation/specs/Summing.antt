-- The correlator's sums, carried from sample to sample: a sample changes one place of each ring, so the sums over the places before it stand.
-- Assumes nothing.
use Rattle.std.specs.Prelude.{ℕ, ◌+◌, ◌≡◌, List, ltb, Float, length, take, if◌then◌else◌}
use Rattle.demodulation.specs.Correlation.{places, sum_of}
use Rattle.demodulation.specs.declared.correlator.Rings.{Rings}
use Rattle.demodulation.specs.declared.correlator.Sums.{Sums}

-- x is the sum over the first n places of a ring of 27
pub record SumTo (n : ℕ) (ring : List Float) (x : Float) : Type 0 where
  pub sum : x ≡ sum_of (take n ring)
  pub long : length ring ≡ places

-- the sums over the first n places of each ring
pub record Summed (n : ℕ) (r : Rings) (p : Sums) : Type 0 where
  pub mark_i : SumTo n r.mark_i p.mark_i
  pub mark_q : SumTo n r.mark_q p.mark_q
  pub space_i : SumTo n r.space_i p.space_i
  pub space_q : SumTo n r.space_q p.space_q

-- the ring place behind one; 0 behind the last
abbrev pub next_place : ℕ → ℕ
next_place pos = if ltb (pos + 1) places then pos + 1 else 0
