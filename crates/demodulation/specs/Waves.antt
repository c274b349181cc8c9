-- The tones' cosines and sines, as the code hands them on. Assumes nothing.
use Rattle.std.specs.Prelude.{◌≡◌, Float}
use Rattle.numeric.specs.Sine.{sine_of, cosine_of}
use Rattle.demodulation.specs.declared.correlator.Correlator.{Correlator}
use Rattle.demodulation.specs.declared.waves.Quadrature.{Quadrature}

-- cosine and sine of the mark's phase m, and of the space's phase s
abbrev pub InQuadrature : Float → Float → Quadrature → Type 0
InQuadrature m s w =
    (w.mark_i ≡ cosine_of m)
    × (w.mark_q ≡ sine_of m)
    × (w.space_i ≡ cosine_of s)
    × (w.space_q ≡ sine_of s)

-- those of a correlator's phases
abbrev pub Waved : Correlator → Quadrature → Type 0
Waved c w = InQuadrature c.phase_m c.phase_s w
