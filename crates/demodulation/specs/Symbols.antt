-- Which samples at 8,000 Hz end a symbol, by which errors its boundaries are moved, and who hears alike. Assumes nothing.
use Rattle.std.specs.Prelude.{ℕ, ◌+◌, ◌≡◌, Bool, false, List, [], ◌∷◌, ◌++◌, Float, if◌then◌else◌}
use Rattle.std.specs.Float.Ieee.{neg}
use Rattle.numeric.specs.F64.{one64}
use Rattle.numeric.specs.Interval.{Within}
use Rattle.demodulation.specs.Correlation.{correlated}
use Rattle.demodulation.specs.Timing.{error_of, crossed, ticked}
use Rattle.demodulation.specs.Pace.{numbered}
use Rattle.demodulation.specs.Demod.{Demodulator, fed, step_of, hearing, bits_in, remade}
use Rattle.demodulation.specs.declared.timing.Timing.{Timing}

-- the soft decision of a sample, which counts once 27 samples are in
abbrev pub soft_of : Demodulator → Float → Float
soft_of d s = (correlated (fed d s).rings).soft

-- whether a sample ends a symbol: "nothing more until 27 samples are in"
unfoldable pub ends_symbol : Demodulator → Float → Bool
ends_symbol d s = if (fed d s).corr.filled then (ticked d.kind d.timing (soft_of d s)).boundary else false

-- the numbers of the samples that end a symbol, in order, where n came before: from n = 0 on the first sample is number 1
unfoldable pub symbol_ends : Demodulator → ℕ → List Float → List ℕ
symbol_ends d n [] = []
symbol_ends d n (s ∷ ss) = numbered (ends_symbol d s) (n + 1) (symbol_ends (step_of d s).state (n + 1) ss)

-- ---- the errors
-- the error by which a boundary is moved, before any limit: where the symbol has a midpoint
abbrev pub error_in : Timing → Float → List Float
error_in t soft = if t.have_mid then error_of soft t.last_sym t.mid_sym ∷ [] else []

unfoldable pub error_at : Demodulator → Float → List Float
error_at d s = if ends_symbol d s then error_in (crossed d.timing (soft_of d s)) (soft_of d s) else []

-- those of a list of samples
unfoldable pub errors_in : Demodulator → List Float → List Float
errors_in d [] = []
errors_in d (s ∷ ss) = error_at d s ++ errors_in (step_of d s).state ss

-- none of them has left -1 to 1
abbrev pub NoneLeaves : List Float → Type 0
NoneLeaves [] = Unit
NoneLeaves (e ∷ es) = Within (neg one64) one64 e × NoneLeaves es

-- ---- two that hear alike
-- of these samples both slice the same bits, at the same boundaries, and after them they are alike but for kind and deframer
pub record HearAlike (d e : Demodulator) (ss : List Float) : Type 0 where
  pub bits : bits_in e ss ≡ bits_in d ss
  pub ends : (n : ℕ) → symbol_ends e n ss ≡ symbol_ends d n ss
  pub after : (hearing e ss).after ≡ remade e.kind (hearing e ss).after.deframer (hearing d ss).after
