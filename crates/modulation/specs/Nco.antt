-- nco.rs, "as written, operation by operation": the oscillator. Assumes nothing.
use Rattle.std.specs.Prelude.{Float}
use Rattle.numeric.specs.F64.{zero64}
use Rattle.numeric.specs.Sine.{sine_of}
use Rattle.numeric.specs.Phase.{step_of, turned}
use Rattle.modulation.specs.declared.nco.Nco.{Nco}
use Rattle.modulation.specs.declared.nco.Tone.{Tone}

-- Nco::new
abbrev pub nco_new : Float → Float → Nco
nco_new freq rate = record { phase = zero64; inc = step_of freq rate; sample_rate = rate }

-- Nco::set_freq: another frequency, the phase kept
abbrev pub nco_set_freq : Nco → Float → Nco
nco_set_freq n freq = record { phase = n.phase; inc = step_of freq n.sample_rate; sample_rate = n.sample_rate }

-- Nco::next: the sine of the phase, and the oscillator one sample on
unfoldable pub nco_next : Nco → Tone
nco_next n =
    record { state = record { phase = turned n.phase n.inc; inc = n.inc; sample_rate = n.sample_rate }; value = sine_of n.phase }

-- Nco::reset
abbrev pub nco_reset : Nco → Nco
nco_reset n = record { phase = zero64; inc = n.inc; sample_rate = n.sample_rate }
