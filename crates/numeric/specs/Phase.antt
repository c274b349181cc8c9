-- The phase of a tone, from sample to sample (nco.rs). Assumes nothing.
use Rattle.std.specs.Prelude.{Float}
use Rattle.numeric.specs.F64.{◌⊕◌, ◌⊖◌, ◌⊗◌, ◌⊘◌, ◌≤ᶠ◌, tau}
use Rattle.std.specs.Prelude.{if◌then◌else◌}

-- the phase step of one sample: TAU × freq / sample_rate
abbrev pub step_of : Float → Float → Float
step_of freq rate = tau ⊗ freq ⊘ rate

-- the phase one sample on: phase + inc, less TAU if that is TAU or more
unfoldable pub turned : Float → Float → Float
turned phase inc = if tau ≤ᶠ phase ⊕ inc then phase ⊕ inc ⊖ tau else phase ⊕ inc
