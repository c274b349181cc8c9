-- nco.rs, "as written, operation by operation": the Goertzel filter. Assumes nothing.
use Rattle.std.specs.Prelude.{Float}
use Rattle.numeric.specs.F64.{◌⊕◌, ◌⊖◌, ◌⊗◌, zero64, two64}
use Rattle.numeric.specs.Sine.{cosine_of}
use Rattle.numeric.specs.Phase.{step_of}
use Rattle.demodulation.specs.declared.goertzel.Goertzel.{Goertzel}

-- Goertzel::new: coeff = 2 × cosine of the phase step
unfoldable pub goertzel_new : Float → Float → Goertzel
goertzel_new freq rate = record { coeff = two64 ⊗ cosine_of (step_of freq rate); s1 = zero64; s2 = zero64 }

-- Goertzel::feed: s0 = x + coeff × s1 - s2
abbrev pub goertzel_feed : Float → Goertzel → Goertzel
goertzel_feed x g = record { coeff = g.coeff; s1 = x ⊕ g.coeff ⊗ g.s1 ⊖ g.s2; s2 = g.s1 }

-- Goertzel::power: s1² + s2² - coeff × s1 × s2
abbrev pub goertzel_power : Goertzel → Float
goertzel_power g = g.s1 ⊗ g.s1 ⊕ g.s2 ⊗ g.s2 ⊖ g.coeff ⊗ g.s1 ⊗ g.s2

-- Goertzel::reset
abbrev pub goertzel_reset : Goertzel → Goertzel
goertzel_reset g = record { coeff = g.coeff; s1 = zero64; s2 = zero64 }
