-- Rates, roles and tones. Assumes nothing.
use Rattle.std.specs.Prelude.{ℕ, Float}
use Rattle.refusal.specs.Refusals.{dsp_rate}
use Rattle.numeric.specs.F64.{◌⊘◌, whole}
use Rattle.bell103.specs.declared.Role.{Role}
use Rattle.bell103.specs.declared.Role.TheVariants.{Originate, Answer}
use Rattle.bell103.specs.declared.TonePair.{TonePair}

-- Bell 103's symbols a second
abbrev pub baud : ℕ
baud = 300

-- "handed to the Rust as f64": 8000.0 / 300.0, rounded once
abbrev pub samples_per_symbol : Float
samples_per_symbol = whole dsp_rate ⊘ whole baud

-- "It listens on the other role's tones"
abbrev pub other_role : Role → Role
other_role Originate = Answer
other_role Answer = Originate

-- the tones that a role sends, in hertz: those of Bell 103
unfoldable pub tones_of : Role → TonePair
tones_of Originate = record { mark = whole 1270; space = whole 1070 }
tones_of Answer = record { mark = whole 2225; space = whole 2025 }
