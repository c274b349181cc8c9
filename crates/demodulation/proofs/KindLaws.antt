-- Until an error leaves -1 to 1, a board's demodulator and the bare one slice the same bits; until then, and until the carrier is lost, they hear the
-- same. Assumes nothing.
use Prim.Native.Nat.{◌+◌}
use mathlib.Core.Path.{◌≡◌, refl, sym, ap, ◌∙◌}
use mathlib.Core.Bool.{Bool, true, false}
use mathlib.Core.List.{List, [], ◌∷◌, ◌++◌}
use native.Mathlib.Omega.{arith}
use lib.ListN.{length}
use lib.Ieee.{Float}
use Rattle.numeric.specs.F64.{◌⊖◌, ◌≤ᶠ◌, one64}
use Rattle.std.specs.Bool.{if◌then◌else◌}
use Rattle.framing.specs.Frame.{fresh_deframer}
use Rattle.framing.specs.declared.frame.Deframer.{Deframer}
use Rattle.happenings.specs.declared.happening.Happening.{Happening}
use Rattle.bell103.specs.declared.Role.{Role}
use Rattle.demodulation.specs.Correlation.{advanced, correlated}
use Rattle.demodulation.specs.Carrier.{updated}
use Rattle.demodulation.specs.Timing.{timing, error_of, held_error, moved_by, next_phase, crossed, bounded, ticked, sliced}
use Rattle.demodulation.specs.Pace.{numbered}
use Rattle.demodulation.specs.Demod.{Demodulator, Step, latched, kept_by, fed, finished, step_of, fresh_demodulator, fall_of, Hearing, before, hearing, bits_at, bits_in, remade, for_board, NoneLost}
use Rattle.demodulation.specs.Symbols.{soft_of, ends_symbol, symbol_ends, error_in, error_at, errors_in, NoneLeaves, HearAlike}
use Rattle.demodulation.proofs.TimingLaws.{tick-ends, tick-goes-on, boundary-at}
use Rattle.demodulation.proofs.DemodLaws.{step_waits, step-decodes, step-kind}
use Rattle.demodulation.proofs.PaceLaws.{held_same}
use Rattle.demodulation.proofs.SymbolLaws.{ends-filled, ends-waiting, bits-at-ends}
use Rattle.demodulation.specs.declared.kind.Kind.{Kind}
use Rattle.demodulation.specs.declared.kind.Kind.TheVariants.{Bare, ForBoard}
use Rattle.demodulation.specs.declared.timing.Timing.{Timing}
use Rattle.demodulation.specs.declared.carrier.CarrierDetector.{CarrierDetector}
use Rattle.demodulation.specs.declared.demod.Latch.{Latch}

-- ---- one tick
bounded-same : (t : Timing) (soft : Float) → NoneLeaves (error_in t soft) → bounded ForBoard t soft ≡ bounded Bare t soft
unfolding bounded
bounded-same t soft h = ap (λ (p : Float). timing p t.sym_inc soft t.mid_sym false) (go t.have_mid h)
  where
    e : Float
    e = error_of soft t.last_sym t.mid_sym

    go : (b : Bool) → NoneLeaves (if b then e ∷ [] else [])
        → (if b then moved_by (t.sym_phase ⊖ one64) (held_error e) else t.sym_phase ⊖ one64)
        ≡ (if b then moved_by (t.sym_phase ⊖ one64) e else t.sym_phase ⊖ one64)
    go true h = ap (moved_by (t.sym_phase ⊖ one64)) (held_same e h.0)
    go false h = refl

tick-same : (t : Timing) (soft : Float) → NoneLeaves (if (ticked Bare t soft).boundary then error_in (crossed t soft) soft else [])
    → ticked ForBoard t soft ≡ ticked Bare t soft
tick-same t soft h = go (one64 ≤ᶠ next_phase t) refl (rw (boundary-at Bare t soft) at h)
  where
    go : (b : Bool) → one64 ≤ᶠ next_phase t ≡ b → NoneLeaves (if b then error_in (crossed t soft) soft else []) → ticked ForBoard t soft ≡ ticked Bare t soft
    go true u h = rw (tick-ends ForBoard t soft u, tick-ends Bare t soft u, bounded-same (crossed t soft) soft h)
    go false u h = rw (tick-goes-on ForBoard t soft u, tick-goes-on Bare t soft u)

tick-any : (kind : Kind) (t : Timing) (soft : Float) → NoneLeaves (if (ticked kind t soft).boundary then error_in (crossed t soft) soft else [])
    → ticked ForBoard t soft ≡ ticked kind t soft
tick-any Bare t soft h = tick-same t soft h
tick-any ForBoard t soft h = refl

-- ---- one sample: of a demodulator of any kind, and of a board's that is alike
module _ (d : Demodulator) (s : Float) (f : Deframer) (h : NoneLeaves (error_at d s)) where
  abbrev board : Demodulator
  board = remade ForBoard f d

  ticks : (advanced d.corr).filled ≡ true → ticked ForBoard d.timing (soft_of d s) ≡ ticked d.kind d.timing (soft_of d s)
  unfolding error_at
  ticks e = tick-any d.kind d.timing (soft_of d s) (rw (ends-filled d s e) at h)

  step_same : (step_of board s).state ≡ remade ForBoard (step_of board s).state.deframer (step_of d s).state
  unfolding fed finished
  step_same = go (advanced d.corr).filled refl
    where
      go : (b : Bool) → (advanced d.corr).filled ≡ b → (step_of board s).state ≡ remade ForBoard (step_of board s).state.deframer (step_of d s).state
      go true e = rw (step-decodes board s e, step-decodes d s e, ticks e)
      go false e = rw (step_waits board s e, step_waits d s e)

  ends_same : ends_symbol board s ≡ ends_symbol d s
  unfolding fed
  ends_same = go (advanced d.corr).filled refl
    where
      go : (b : Bool) → (advanced d.corr).filled ≡ b → ends_symbol board s ≡ ends_symbol d s
      go true e = rw (ends-filled board s e, ends-filled d s e, ticks e)
      go false e = rw (ends-waiting board s e, ends-waiting d s e)

  bits-same : bits_at board s ≡ bits_at d s
  unfolding fed
  bits-same = rw (bits-at-ends board s, bits-at-ends d s, ends_same, step_same)

-- ---- a list of samples
leaves-left : (xs ys : List Float) → NoneLeaves (xs ++ ys) → NoneLeaves xs
leaves-left [] ys h = tt
leaves-left (x ∷ xs) ys h = (h.0, leaves-left xs ys h.1)

leaves-right : (xs ys : List Float) → NoneLeaves (xs ++ ys) → NoneLeaves ys
leaves-right [] ys h = h
leaves-right (x ∷ xs) ys h = leaves-right xs ys h.1

hear-alike : (ss : List Float) (d : Demodulator) (f : Deframer) → NoneLeaves (errors_in d ss) → HearAlike d (remade ForBoard f d) ss
unfolding bits_in symbol_ends hearing errors_in
hear-alike [] d f h = record { bits = refl; ends = λ n. refl; after = refl }
hear-alike (s ∷ ss) d f h =
    let x = leaves-left (error_at d s) (errors_in (step_of d s).state ss) h in
    let e = step_same d s f x in
    let g = (step_of (remade ForBoard f d) s).state.deframer in
    let y = hear-alike ss (step_of d s).state g (leaves-right (error_at d s) (errors_in (step_of d s).state ss) h) in
    record {
      bits = rw (bits-same d s f x, e) (ap (λ (l : List Bool). bits_at d s ++ l) y.bits);
      ends = λ n. rw (ends_same d s f x, e) (ap (numbered (ends_symbol d s) (n + 1)) (y.ends (n + 1)));
      after = rw e y.after;
    }

-- from fresh on: while no error of the bare one has left -1 to 1
pub alike-until : (role : Role) (ss : List Float) → NoneLeaves (errors_in (fresh_demodulator Bare role) ss)
    → HearAlike (fresh_demodulator Bare role) (fresh_demodulator ForBoard role) ss
unfolding fresh_demodulator
alike-until role ss h = hear-alike ss (fresh_demodulator Bare role) fresh_deframer h

-- ---- until the carrier is lost
-- what a step gives, with the state made for a board
abbrev boards : Step → Step
boards x = record { state = for_board x.state; heard = x.heard; event = x.event }

kept_same : (kind : Kind) (was up : Bool) (d : Deframer) → kind ≡ Bare → fall_of was up ≡ [] → kept_by ForBoard was up d ≡ kept_by kind was up d
kept_same kind true true d e f = rw e refl
kept_same kind true false d e f = let z = ap (λ (l : List Happening). length l) f in absurd (omega (arith, z))
kept_same kind false true d e f = rw e refl
kept_same kind false false d e f = rw e refl

finished-for_board : (d : Demodulator) (carrier : CarrierDetector) (latch : Latch) (soft : Float) → d.kind ≡ Bare
    → fall_of d.carrier.detected carrier.detected ≡ [] → ticked ForBoard d.timing soft ≡ ticked d.kind d.timing soft
    → finished (for_board d) carrier latch soft ≡ boards (finished d carrier latch soft)
unfolding finished
finished-for_board d carrier latch soft e f t =
    let x = (sliced d.deframer (ticked d.kind d.timing soft).boundary carrier.detected soft).state in
    rw (t, kept_same d.kind d.carrier.detected carrier.detected x e f) refl

step-for_board : (d : Demodulator) (s : Float) → d.kind ≡ Bare → fall_of d.carrier.detected (step_of d s).state.carrier.detected ≡ []
    → NoneLeaves (error_at d s) → step_of (for_board d) s ≡ boards (step_of d s)
unfolding fed finished
step-for_board d s e f h = go (advanced d.corr).filled refl
  where
    go : (b : Bool) → (advanced d.corr).filled ≡ b → step_of (for_board d) s ≡ boards (step_of d s)
    go true a =
        let x = step-decodes d s a in
        let o = correlated (fed d s).rings in
        let carrier = updated d.carrier o.energy in
        let latch = latched d.latch (fed d s).gate_open carrier.detected in
        step-decodes (for_board d) s a ∙ finished-for_board (fed d s) carrier latch o.soft e (rw x at f) (ticks d s d.deframer h a) ∙ sym (ap boards x)
    go false a = rw (step_waits (for_board d) s a, step_waits d s a) refl

-- from any state of the bare one
pub same-until-lost : (d : Demodulator) (ss : List Float) → d.kind ≡ Bare → NoneLost d ss → NoneLeaves (errors_in d ss)
    → hearing (for_board d) ss ≡ record { after = for_board (hearing d ss).after; happenings = (hearing d ss).happenings }
unfolding hearing NoneLost errors_in
same-until-lost d [] e n h = refl
same-until-lost d (s ∷ ss) e n h =
    let x = step-for_board d s e n.0 (leaves-left (error_at d s) (errors_in (step_of d s).state ss) h) in
    let y = same-until-lost (step_of d s).state ss (step-kind d s ∙ e) n.1 (leaves-right (error_at d s) (errors_in (step_of d s).state ss) h) in
    ap (λ (z : Step). before (for_board d) z (hearing z.state ss)) x ∙ ap (before d (step_of d s)) y

-- so from fresh on
pub fresh-until-lost : (role : Role) (ss : List Float) → NoneLost (fresh_demodulator Bare role) ss → NoneLeaves (errors_in (fresh_demodulator Bare role) ss)
    → (hearing (fresh_demodulator ForBoard role) ss).happenings ≡ (hearing (fresh_demodulator Bare role) ss).happenings
unfolding fresh_demodulator
fresh-until-lost role ss n h = ap (λ (x : Hearing). x.happenings) (same-until-lost (fresh_demodulator Bare role) ss refl n h)
