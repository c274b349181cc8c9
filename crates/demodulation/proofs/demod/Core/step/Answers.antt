-- In the order of the code: each part is what its function ensures. `Core::feed` says whether the rings are filled.
use mathlib.Core.Path.{◌≡◌, sym, ap, ap₂, ◌∙◌}
use mathlib.Core.Bool.{true, false}
use native.Mathlib.Omega.{arith}
use borrow.Author.Tests.{not-true, not-false}
use lib.Ieee.{Float}
use Rattle.demodulation.specs.Carrier.{updated}
use Rattle.demodulation.specs.Correlation.{magnitude_of, decision_of, multiplied}
use Rattle.demodulation.specs.Demod.{Demodulator, Step, latched, fed, finished, decoded, step_of}
use Rattle.demodulation.specs.DemodRep.{demodulator, step_with, Feeds, Finishes}
use Rattle.demodulation.proofs.DemodLaws.{step_waits, step-decodes}
use Rattle.demodulation.specs.declared.carrier.CarrierDetector.{CarrierDetector}
use Rattle.demodulation.specs.declared.demod.Core.{Core}
use Rattle.demodulation.specs.declared.demod.CoreStep.{CoreStep}
use Rattle.demodulation.specs.declared.correlator.Decision.{Decision}
use Rattle.demodulation.specs.declared.demod.Latch.{Latch}
use Rattle.demodulation.specs.declared.correlator.Rings.{Rings}
use Rattle.framing.specs.declared.frame.Heard.TheVariants.{Waiting}
use Rattle.std.specs.Prelude.{None}
use Rattle.demodulation.proofs.SummingLaws.{summed_kept, tone-end}
use Rattle.demodulation.proofs.demod.Core.step.Goals as goal

-- what a decision makes of the state
abbrev after : Demodulator → Decision → Step
after d o =
    finished d (updated d.carrier o.energy) (latched d.latch d.gate_open (updated d.carrier o.energy).detected) o.soft

-- the rings before the sample and r after it, the core c before it and k after `feed`
module _ (before : Rings) (c : Core) (s : Float) (r : Rings) (k : Core) (m : r ≡ multiplied before c.corr s) (f : Feeds c s k) where
  is : demodulator r k ≡ fed (demodulator before c) s
  is = ap (λ (x : Rings). demodulator x k) m ∙ f before

  waits : k.corr.filled ≡ false → step_with r (record { core = k; heard = Waiting; event = None }) ≡ step_of (demodulator before c) s
  waits e =
      ap (λ (x : Demodulator). record { state = x; heard = Waiting; event = None }) is
      ∙ sym (step_waits (demodulator before c) s (ap (λ (x : Demodulator). x.corr.filled) (sym is) ∙ e))

  decodes : (m n : Float) (o : Decision) (carrier : CarrierDetector) (latch : Latch) (x : CoreStep)
      → k.corr.filled ≡ true
      → m ≡ magnitude_of r.mark_i r.mark_q
      → n ≡ magnitude_of r.space_i r.space_q
      → o ≡ decision_of m n
      → carrier ≡ updated k.carrier o.energy
      → latch ≡ latched k.latch k.gate_open carrier.detected
      → Finishes k carrier latch o.soft x
      → step_with r x ≡ step_of (demodulator before c) s
  decodes m n o carrier latch x e em en eo ec el ex =
      ex r
      ∙ ap (λ (l : Latch). finished (demodulator r k) carrier l o.soft) el
      ∙ ap (λ (h : CarrierDetector). finished (demodulator r k) h (latched k.latch k.gate_open h.detected) o.soft) ec
      ∙ ap (after (demodulator r k)) (eo ∙ ap₂ decision_of em en)
      ∙ ap decoded is
      ∙ sym (step-decodes (demodulator before c) s (ap (λ (x : Demodulator). x.corr.filled) (sym is) ∙ e))

pub sums_on-t-requires : goal.sums_on-t-requires
sums_on-t-requires c =
    (omega (arith, c.args.self.place), omega arith, summed_kept c.args.self.corr c.args.s _ _ _ c.requires.0 c.multiply.ensures)

pub returns-then-not-fed : goal.returns-then-not-fed
returns-then-not-fed c =
    waits _ c.args.self c.args.s _ c.feed-fed.result c.multiply.ensures c.feed-fed.ensures (not-true c.feed-fed.result.corr.filled c.if-not-fed.true)

pub returns : goal.returns
returns c =
    let t = c.sums_on-t.ensures in
    decodes _ c.args.self c.args.s _ c.feed-fed.result c.multiply.ensures c.feed-fed.ensures _ _ _ _ _ c.finish.result
    (not-false c.feed-fed.result.corr.filled c.if-not-fed.false) (tone-end _ _ _ _ _ t.mark_i t.mark_q c.roots-m.ensures.0)
    (tone-end _ _ _ _ _ t.space_i t.space_q c.roots-m.ensures.1) c.decide-o.ensures c.update-carrier.ensures
    c.see-latch.ensures c.finish.ensures
