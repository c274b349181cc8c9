-- Symbol timing and the slicer: where a boundary is, what the phase is behind it, and which bit the deframer gets. Assumes nothing.
use mathlib.Core.Path.{◌≡◌, refl, sym, ◌∙◌}
use mathlib.Core.Bool.{Bool, true, false, ◌&&◌}
use mathlib.Core.List.{append-nil}
use native.Mathlib.Nat.{add-zero}
use native.Mathlib.Omega.{arith}
use lib.Ieee.{Float}
use Rattle.numeric.specs.F64.{◌<ᶠ◌, ◌≤ᶠ◌, zero64, half64, one64}
use Rattle.std.specs.Bool.{if◌then◌else◌}
use Rattle.framing.specs.Frame.{bytes_of, bad_stops_of, Deframed, waiting, push_bit, yielded, heard, bad_stop_count, after}
use Rattle.framing.specs.declared.frame.Deframer.{Deframer}
use Rattle.demodulation.specs.Timing.{timing, next_phase, crossed, residue_of, bounded, ticked, sliced, sliced_bits}
use Rattle.demodulation.specs.Demod.{Sliced}
use Rattle.demodulation.specs.declared.kind.Kind.{Kind}
use Rattle.demodulation.specs.declared.timing.Timing.{Timing}

-- ---- timing
module _ (t : Timing) (soft : Float) where
  by-crossing : (P : Timing → Type 0)
      → P (timing (next_phase t) t.sym_inc t.last_sym soft true)
      → P (timing (next_phase t) t.sym_inc t.last_sym t.mid_sym t.have_mid)
      → P (crossed t soft)
  unfolding crossed
  by-crossing P p q = go ((t.sym_phase <ᶠ half64) && (half64 ≤ᶠ next_phase t))
    where
      turns : Bool → Timing
      turns b =
          if b
          then timing (next_phase t) t.sym_inc t.last_sym soft true
          else timing (next_phase t) t.sym_inc t.last_sym t.mid_sym t.have_mid

      go : (b : Bool) → P (turns b)
      go true = p
      go false = q

  pub crossed-phase : (crossed t soft).sym_phase ≡ next_phase t
  crossed-phase = by-crossing (λ x. x.sym_phase ≡ next_phase t) refl refl

  pub crossed-inc : (crossed t soft).sym_inc ≡ t.sym_inc
  crossed-inc = by-crossing (λ x. x.sym_inc ≡ t.sym_inc) refl refl

-- for a bare receiver and for a board
module _ (kind : Kind) (t : Timing) (soft : Float) where
  pub tick-ends : one64 ≤ᶠ next_phase t ≡ true → ticked kind t soft ≡ record { state = bounded kind (crossed t soft) soft; boundary = true }
  unfolding ticked
  tick-ends e = rw (crossed-phase t soft, e)

  pub tick-goes-on : one64 ≤ᶠ next_phase t ≡ false → ticked kind t soft ≡ record { state = crossed t soft; boundary = false }
  unfolding ticked
  tick-goes-on e = rw (crossed-phase t soft, e)

  -- a boundary is where the phase reaches 1.0: "At most one boundary a sample"
  pub boundary-at : (ticked kind t soft).boundary ≡ one64 ≤ᶠ next_phase t
  boundary-at = go (one64 ≤ᶠ next_phase t) refl
    where
      go : (b : Bool) → one64 ≤ᶠ next_phase t ≡ b → (ticked kind t soft).boundary ≡ b
      go true e = rw (tick-ends e)
      go false e = rw (tick-goes-on e)

  -- the phase behind it: one symbol less, and moved by the error as that is, or is limited, also below 0.0
  pub phase-behind : (ticked kind t soft).boundary ≡ true → (ticked kind t soft).state.sym_phase ≡ residue_of kind (crossed t soft) soft
  unfolding bounded
  phase-behind e = rw (tick-ends (sym boundary-at ∙ e))

-- ---- the slicer
module _ (d : Deframer) (soft : Float) where
  -- "slice at a boundary while the detector (not the latched report) is up, soft ≥ 0 being mark"
  pub slices : sliced d true true soft ≡ push_bit d (zero64 ≤ᶠ soft)
  unfolding sliced
  slices = refl

  -- while it is down the deframer keeps its half byte
  pub keeps-half-byte : (boundary : Bool) → sliced d boundary false soft ≡ waiting d
  unfolding sliced
  keeps-half-byte true = refl
  keeps-half-byte false = refl

  -- the deframer gets the bit, if there is one
  pub slice-bits : (boundary up : Bool)
      → Sliced d (sliced_bits boundary up soft) (sliced d boundary up soft).state (bytes_of (sliced d boundary up soft).heard) (bad_stops_of (sliced d boundary up soft).heard) 1
  unfolding sliced sliced_bits heard bad_stop_count after
  slice-bits true true =
      record { few = omega arith; left = refl; yields = append-nil (yielded d (zero64 ≤ᶠ soft)); bad_stops = add-zero (bad_stops_of (push_bit d (zero64 ≤ᶠ soft)).heard) }
  slice-bits true false = record { few = omega arith; left = refl; yields = refl; bad_stops = refl }
  slice-bits false up = record { few = omega arith; left = refl; yields = refl; bad_stops = refl }

  -- what holds of no bit, and of every bit, holds of what is sliced
  pub slice-either : (P : Deframed → Type 0) → P (waiting d) → ((bit : Bool) → P (push_bit d bit)) → (boundary up : Bool) → P (sliced d boundary up soft)
  unfolding sliced
  slice-either P w g true true = g (zero64 ≤ᶠ soft)
  slice-either P w g true false = w
  slice-either P w g false up = w
