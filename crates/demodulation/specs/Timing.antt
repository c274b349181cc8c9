-- Symbol timing and the slicer (rx.rs), operation by operation. Assumes nothing.
use Rattle.std.specs.Prelude.{Bool, true, false, ◌&&◌, List, [], ◌∷◌, Float, if◌then◌else◌}
use Rattle.std.specs.Float.Ieee.{neg}
use Rattle.numeric.specs.F64.{◌⊕◌, ◌⊖◌, ◌⊗◌, ◌⊘◌, ◌<ᶠ◌, ◌≤ᶠ◌, f64, zero64, half64, one64, magnitude}
use Rattle.bell103.specs.Roles.{samples_per_symbol}
use Rattle.framing.specs.Frame.{Deframed, waiting, push_bit}
use Rattle.framing.specs.declared.frame.Deframer.{Deframer}
use Rattle.demodulation.specs.declared.kind.Kind.{Kind}
use Rattle.demodulation.specs.declared.kind.Kind.TheVariants.{Bare, ForBoard}
use Rattle.demodulation.specs.declared.timing.Timing.{Timing}
use Rattle.demodulation.specs.declared.timing.Ticked.{Ticked}

-- ---- timing
-- 1e-9
abbrev pub least_level : Float
least_level = f64 0x3E11_2E0B_E826_D695

-- GARDNER_GAIN, 0.15
abbrev pub gardner_gain : Float
gardner_gain = f64 0x3FC3_3333_3333_3333

-- the level of two neighbouring symbols
abbrev pub level_of : Float → Float → Float
level_of soft last = magnitude soft ⊕ magnitude last ⊕ least_level

-- the timing error of a bare receiver, before the gain: "nothing limits it but the 1e-9 term"
unfoldable pub error_of : Float → Float → Float → Float
error_of soft last mid = (soft ⊖ last) ⊗ mid ⊘ (level_of soft last ⊗ level_of soft last)

-- an error held from -1.0 to 1.0; a NaN, which is not at most 1.0, falls to that end
unfoldable pub held_error : Float → Float
held_error e = if e ≤ᶠ one64 then (if neg one64 ≤ᶠ e then e else neg one64) else one64

-- "Boards limit the error to -1 through 1 before the gain"; "The bare receiver remains unlimited"
abbrev pub limited_by : Kind → Float → Float
limited_by Bare e = e
limited_by ForBoard e = held_error e

abbrev pub timing : Float → Float → Float → Float → Bool → Timing
timing phase inc last mid have = record { sym_phase = phase; sym_inc = inc; last_sym = last; mid_sym = mid; have_mid = have }

-- the symbol phase one sample on
abbrev pub next_phase : Timing → Float
next_phase t = t.sym_phase ⊕ t.sym_inc

-- where it passes 0.5, this soft decision is the symbol's midpoint
unfoldable pub crossed : Timing → Float → Timing
crossed t soft =
    if (t.sym_phase <ᶠ half64) && (half64 ≤ᶠ next_phase t)
    then timing (next_phase t) t.sym_inc t.last_sym soft true
    else timing (next_phase t) t.sym_inc t.last_sym t.mid_sym t.have_mid

-- the phase behind a boundary, moved by the error: late pulls the next boundary forward; below 0.0 it stays as it is
abbrev pub moved_by : Float → Float → Float
moved_by residue e = residue ⊕ gardner_gain ⊗ e

-- 1.0 less, and with a midpoint moved by the error
abbrev pub residue_of : Kind → Timing → Float → Float
residue_of kind t soft =
    if t.have_mid
    then moved_by (t.sym_phase ⊖ one64) (limited_by kind (error_of soft t.last_sym t.mid_sym))
    else t.sym_phase ⊖ one64

-- a boundary: the next symbol begins without a midpoint
unfoldable pub bounded : Kind → Timing → Float → Timing
bounded kind t soft = timing (residue_of kind t soft) t.sym_inc soft t.mid_sym false

-- "At most one boundary a sample": where the phase has reached 1.0
abbrev pub ended_at : Kind → Timing → Float → Ticked
ended_at kind t soft =
    if one64 ≤ᶠ t.sym_phase
    then record { state = bounded kind t soft; boundary = true }
    else record { state = t; boundary = false }

unfoldable pub ticked : Kind → Timing → Float → Ticked
ticked kind t soft = ended_at kind (crossed t soft) soft

-- ---- the slicer
-- "slice at a boundary while the detector (not the latched report) is up, soft ≥ 0 being mark"; else the deframer keeps its half byte
unfoldable pub sliced : Deframer → Bool → Bool → Float → Deframed
sliced d boundary up soft = if boundary && up then push_bit d (zero64 ≤ᶠ soft) else waiting d

-- the bit that it takes so: one, or none
unfoldable pub sliced_bits : Bool → Bool → Float → List Bool
sliced_bits boundary up soft = if boundary && up then (zero64 ≤ᶠ soft) ∷ [] else []

-- ---- a fresh one
abbrev pub fresh_timing : Timing
fresh_timing = timing zero64 (one64 ⊘ samples_per_symbol) zero64 zero64 false
