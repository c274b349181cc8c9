-- The correlator (rx.rs), operation by operation. Assumes nothing.
use Rattle.std.specs.Prelude.{ℕ, ◌+◌, true, false, List, ltb, Float, set, replicate, if◌then◌else◌}
use Rattle.numeric.specs.F64.{◌⊕◌, ◌⊖◌, ◌⊗◌, ◌⊘◌, f64, whole, zero64, tau}
use Rattle.numeric.specs.Sine.{sine_of, cosine_of}
use Rattle.numeric.specs.Root.{root_of}
use Rattle.numeric.specs.Fold.{fold}
use Rattle.refusal.specs.Refusals.{dsp_rate}
use Rattle.numeric.specs.Phase.{turned}
use Rattle.demodulation.specs.declared.correlator.Rings.{Rings}
use Rattle.demodulation.specs.declared.correlator.Correlator.{Correlator}
use Rattle.demodulation.specs.declared.correlator.Decision.{Decision}

-- ---- products, phases, ring place
-- "State of 27-place rings"
abbrev pub places : ℕ
places = 27

abbrev pub rings_of : List Float → List Float → List Float → List Float → Rings
rings_of mi mq si sq = record { mark_i = mi; mark_q = mq; space_i = si; space_q = sq }

-- the sample times cosine and sine of each tone's phase, at the ring place
abbrev pub multiplied : Rings → Correlator → Float → Rings
multiplied r c s =
    rings_of
    (set r.mark_i c.pos (s ⊗ cosine_of c.phase_m))
    (set r.mark_q c.pos (s ⊗ sine_of c.phase_m))
    (set r.space_i c.pos (s ⊗ cosine_of c.phase_s))
    (set r.space_q c.pos (s ⊗ sine_of c.phase_s))

-- the phases and the place, one sample on; the rings are filled once the place is back at 0
unfoldable pub advanced : Correlator → Correlator
advanced c =
    record {
      pos = if ltb (c.pos + 1) places then c.pos + 1 else 0;
      filled = if ltb (c.pos + 1) places then c.filled else true;
      phase_m = turned c.phase_m c.inc_m;
      phase_s = turned c.phase_s c.inc_s;
      inc_m = c.inc_m;
      inc_s = c.inc_s;
    }

-- ---- "correlate, in place order"
-- "Sums start at 0.0"
abbrev pub sum_of : List Float → Float
sum_of ring = fold ◌⊕◌ zero64 ring

-- the magnitude of one tone
unfoldable pub magnitude_of : List Float → List Float → Float
magnitude_of i q = root_of (sum_of i) (sum_of q)

-- 27.0
abbrev pub places_as_float : Float
places_as_float = f64 0x403B_0000_0000_0000

-- soft decision: mark magnitude less space magnitude; energy: their sum over 27
abbrev pub decision_of : Float → Float → Decision
decision_of m s = record { soft = m ⊖ s; energy = (m ⊕ s) ⊘ places_as_float }

abbrev pub correlated : Rings → Decision
correlated r = decision_of (magnitude_of r.mark_i r.mark_q) (magnitude_of r.space_i r.space_q)

-- ---- a fresh one
abbrev pub fresh_ring : List Float
fresh_ring = replicate places zero64

-- TAU × tone / 8000.0 a sample
abbrev pub fresh_correlator : Float → Float → Correlator
fresh_correlator mark space =
    record {
      pos = 0;
      filled = false;
      phase_m = zero64;
      phase_s = zero64;
      inc_m = tau ⊗ mark ⊘ whole dsp_rate;
      inc_s = tau ⊗ space ⊘ whole dsp_rate;
    }
