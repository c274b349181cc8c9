-- From a fresh demodulator on: nothing until 27 samples are in, and when the report is up. Assumes nothing.
use Prim.Native.Nat.{◌+◌, ◌<◌, ◌≤◌}
use mathlib.Core.Path.{◌≡◌, refl, sym, ap, ◌∙◌}
use mathlib.Core.Bool.{Bool, true, false, ◌&&◌, ◌||◌, true≢false}
use mathlib.Core.List.{List, [], ◌∷◌, ◌++◌}
use native.Mathlib.Omega.{arith}
use borrow.Author.Tests.{lt-ltb, le-ltb, ltb-true, ltb-false}
use lib.Dec.{ltb}
use lib.Ieee.{Float}
use lib.ListN.{length}
use Rattle.std.specs.Bool.{if◌then◌else◌}
use Rattle.framing.specs.Frame.{fresh_deframer}
use Rattle.demodulation.specs.Carrier.{BlockAnswer, goes_on, ends_with, fresh_detector, fresh_dominance, dominance_step, yes_in, blocks_in, some_yes}
use Rattle.demodulation.specs.Correlation.{places, advanced}
use Rattle.demodulation.specs.Timing.{fresh_timing}
use Rattle.demodulation.specs.Demod.{Demodulator, Step, gate_after, latched, fed, finished, decoded, step_of, fresh_demodulator, fall_of, happens, hearing, reported, Waits}
use Rattle.demodulation.proofs.CarrierLaws.{step-says, count-after}
use Rattle.demodulation.proofs.DemodLaws.{step_waits, step-decodes, corr-after, dominance-after}
use Rattle.bell103.specs.declared.Role.{Role}
use Rattle.demodulation.specs.declared.correlator.Correlator.{Correlator}
use Rattle.demodulation.specs.declared.kind.Kind.{Kind}

-- ---- the ring place
-- not filled behind a sample: it was not before, and one more place is in
record Place (c : Correlator) : Type 0 where
  room : c.pos + 1 < places
  not_full : c.filled ≡ false
  next : (advanced c).pos ≡ c.pos + 1

unfilled : (c : Correlator) → (advanced c).filled ≡ false → Place c
unfolding advanced
unfilled c e = go (ltb (c.pos + 1) places) refl e
  where
    go : (t : Bool) → ltb (c.pos + 1) places ≡ t → (if t then c.filled else true) ≡ false → Place c
    go true p q = record { room = ltb-true _ _ p; not_full = q; next = rw p refl }
    go false p q = absurd (true≢false q)

-- before the last place the rings stay open
pub stays_open : (c : Correlator) → c.filled ≡ false → c.pos + 1 < places → (advanced c).filled ≡ false
unfolding advanced
stays_open c e h = rw (lt-ltb (c.pos + 1) places h) e

pub next_place_lem : (c : Correlator) → c.pos + 1 < places → (advanced c).pos ≡ c.pos + 1
unfolding advanced
next_place_lem c h = rw (lt-ltb (c.pos + 1) places h) refl

pub fills : (c : Correlator) → places ≤ c.pos + 1 → (advanced c).filled ≡ true
unfolding advanced
fills c h = rw (le-ltb (c.pos + 1) places h) refl

pub stays-filled : (c : Correlator) → c.filled ≡ true → (advanced c).filled ≡ true
unfolding advanced
stays-filled c e = go (ltb (c.pos + 1) places)
  where
    go : (t : Bool) → (if t then c.filled else true) ≡ true
    go true = e
    go false = refl

-- ---- "nothing more until 27 samples are in"
none-happens : (d : Demodulator) (s : Float) → (fed d s).corr.filled ≡ false → happens d (step_of d s) ≡ []
unfolding fed
none-happens d s e = rw (step_waits d s e) (go d.carrier.detected)
  where
    go : (up : Bool) → fall_of up up ++ [] ≡ []
    go true = refl
    go false = refl

pub waits : (ss : List Float) (d : Demodulator) → d.corr.filled ≡ false → d.corr.pos + length ss < places → Waits d ss
unfolding hearing
waits [] d e h = record { nothing = refl; carrier = refl; latch = refl; timing = refl; deframer = refl }
waits (s ∷ ss) d e h =
    let f : (fed d s).corr.filled ≡ false = unfold fed in stays_open d.corr e (omega arith) in
    let x = step_waits d s f in
    let c = corr-after d s in
    let w = waits ss (step_of d s).state (rw c (stays_open d.corr e (omega arith))) (rw (c, next_place_lem d.corr (omega arith)) (omega arith)) in
    record {
      nothing = rw (none-happens d s f) w.nothing;
      carrier = w.carrier ∙ (unfold fed in ap (λ (y : Step). y.state.carrier) x);
      latch = w.latch ∙ (unfold fed in ap (λ (y : Step). y.state.latch) x);
      timing = w.timing ∙ (unfold fed in ap (λ (y : Step). y.state.timing) x);
      deframer = w.deframer ∙ (unfold fed in ap (λ (y : Step). y.state.deframer) x);
    }

filled_on : (ss : List Float) (d : Demodulator) → d.corr.filled ≡ true → (advanced (hearing d ss).after.corr).filled ≡ true
unfolding hearing
filled_on [] d e = stays-filled d.corr e
filled_on (s ∷ ss) d e = filled_on ss (step_of d s).state (rw (corr-after d s) (stays-filled d.corr e))

filled-by : (ss : List Float) (d : Demodulator) → places ≤ d.corr.pos + length ss + 1 → (advanced (hearing d ss).after.corr).filled ≡ true
unfolding hearing
filled-by [] d h = fills d.corr (omega arith)
filled-by (s ∷ ss) d h =
    go (ltb (d.corr.pos + 1) places) refl (λ p. filled-by ss (step_of d s).state (rw (corr-after d s, next_place_lem d.corr p) (omega arith)))
  where
    go : (t : Bool) → ltb (d.corr.pos + 1) places ≡ t
        → (d.corr.pos + 1 < places → (advanced (hearing (step_of d s).state ss).after.corr).filled ≡ true)
        → (advanced (hearing (step_of d s).state ss).after.corr).filled ≡ true
    go true p more = more (ltb-true _ _ p)
    go false p more = filled_on ss (step_of d s).state (rw (corr-after d s) (fills d.corr (ltb-false _ _ p)))

module _ (kind : Kind) (role : Role) where
  abbrev fresh : Demodulator
  fresh = fresh_demodulator kind role

  -- a fresh one's parts
  pub fresh-carrier : fresh.carrier ≡ fresh_detector
  unfolding fresh_demodulator
  fresh-carrier = refl

  pub fresh-latch : fresh.latch ≡ record { qualified = false; qualified_ever = false }
  unfolding fresh_demodulator
  fresh-latch = refl

  pub fresh-timing : fresh.timing ≡ fresh_timing
  unfolding fresh_demodulator
  fresh-timing = refl

  pub fresh-deframer : fresh.deframer ≡ fresh_deframer
  unfolding fresh_demodulator
  fresh-deframer = refl

  -- 26 samples or fewer bring nothing, and leave detector, latch, timing and deframer fresh
  pub waits-for-27 : (ss : List Float) → length ss ≤ 26 → Waits fresh ss
  unfolding fresh_demodulator
  waits-for-27 ss h = waits ss fresh refl (omega arith)

  -- the 27th, and each behind it, is decoded
  pub decodes-from-27 : (ss : List Float) (s : Float) → 26 ≤ length ss
      → step_of (hearing fresh ss).after s ≡ decoded (fed (hearing fresh ss).after s)
  decodes-from-27 ss s h = step-decodes (hearing fresh ss).after s (unfold fed in filled-by ss fresh (unfold fresh_demodulator in omega arith))

-- ---- the latched report
-- `seen`: some block was dominant. A verdict that opens the gate is seen in its step, since the rings are full long before a block ends
record Latching (d : Demodulator) (seen : Bool) : Type 0 where
  ever : d.latch.qualified_ever ≡ seen
  report : d.latch.qualified ≡ seen && d.carrier.detected
  gate : seen || d.gate_open ≡ seen
  early : d.corr.filled ≡ false → d.dominance.count ≡ d.corr.pos

or-none : (b : Bool) → b || false ≡ b
or-none true = refl
or-none false = refl

or_assoc : (a b c : Bool) → (a || b) || c ≡ a || (b || c)
or_assoc true b c = refl
or_assoc false b c = refl

or-again : (a b : Bool) → (a || b) || b ≡ a || b
or-again true b = refl
or-again false true = refl
or-again false false = refl

some-append : (xs ys : List Bool) → some_yes (xs ++ ys) ≡ some_yes xs || some_yes ys
some-append [] ys = refl
some-append (x ∷ xs) ys = ap (λ (b : Bool). x || b) (some-append xs ys) ∙ sym (or_assoc x (some_yes xs) (some_yes ys))

-- with the gate behind an answer, the latch has seen what was answered
sees : (seen gate : Bool) (a : BlockAnswer) → seen || gate ≡ seen → seen || gate_after gate a ≡ seen || some_yes (yes_in a)
sees seen gate goes_on h = h ∙ sym (or-none seen)
sees seen gate (ends_with dominant narrow others) h = ap (λ (b : Bool). seen || b) (sym (or-none dominant))

module _ (d : Demodulator) (s : Float) (seen : Bool) (l : Latching d seen) where
  abbrev said : BlockAnswer
  said = (dominance_step d.dominance s).answer

  abbrev now-seen : Bool
  now-seen = seen || some_yes (yes_in said)

  gate-seen : seen || gate_after d.gate_open said ≡ now-seen
  gate-seen = sees seen d.gate_open said l.gate

  gate-kept : now-seen || gate_after d.gate_open said ≡ now-seen
  gate-kept = rw (← gate-seen) (or-again seen (gate_after d.gate_open said))

  -- the block's count is the ring place until the rings are full
  count-on : (advanced d.corr).filled ≡ false → (dominance_step d.dominance s).state.count ≡ (advanced d.corr).pos
  count-on e =
      let p = unfilled d.corr e in
      let c = l.early p.not_full in
      count-after d.dominance s ∙ rw (lt-ltb (d.dominance.count + 1) 256 (omega (arith, p.room))) (omega (arith, p.next))

  -- so no block ends before that
  none-ends : (advanced d.corr).filled ≡ false → said ≡ goes_on
  none-ends e =
      let p = unfilled d.corr e in
      let c = l.early p.not_full in
      step-says d.dominance s ∙ rw (lt-ltb (d.dominance.count + 1) 256 (omega (arith, p.room))) refl

  early-next : (step_of d s).state.corr.filled ≡ false → (step_of d s).state.dominance.count ≡ (step_of d s).state.corr.pos
  early-next = rw (corr-after d s, dominance-after d s) count-on

  latching-waits : (advanced d.corr).filled ≡ false → Latching (step_of d s).state now-seen
  latching-waits e =
      let n : now-seen ≡ seen = rw (none-ends e) (or-none seen) in
      let x = step_waits d s (unfold fed in e) in
      rw n
      record {
        ever = rw x (unfold fed in l.ever);
        report = rw x (unfold fed in l.report);
        gate = rw x (unfold fed in rw (none-ends e) l.gate);
        early = early-next;
      }

  latching-decodes : (advanced d.corr).filled ≡ true → Latching (step_of d s).state now-seen
  latching-decodes e =
      let x = step-decodes d s (unfold fed in e) in
      record {
        ever = rw x (unfold fed finished latched in rw l.ever gate-seen);
        report = rw x (unfold fed finished latched in rw (l.ever, gate-seen) refl);
        gate = rw x (unfold fed finished in gate-kept);
        early = early-next;
      }

  latching-step : Latching (step_of d s).state now-seen
  latching-step = go (advanced d.corr).filled refl
    where
      go : (f : Bool) → (advanced d.corr).filled ≡ f → Latching (step_of d s).state now-seen
      go true e = latching-decodes e
      go false e = latching-waits e

latching-on : (ss : List Float) (d : Demodulator) (seen : Bool) → Latching d seen → Latching (hearing d ss).after (seen || some_yes (blocks_in d.dominance ss))
unfolding hearing blocks_in
latching-on [] d seen l = rw (or-none seen) l
latching-on (s ∷ ss) d seen l =
    let a = yes_in (dominance_step d.dominance s).answer in
    let more = blocks_in (dominance_step d.dominance s).state ss in
    rw (some-append a more, ← or_assoc seen (some_yes a) (some_yes more), ← dominance-after d s)
    (latching-on ss (step_of d s).state (seen || some_yes a) (latching-step d s seen l))

module _ (kind : Kind) (role : Role) where
  latching-fresh : Latching (fresh_demodulator kind role) false
  unfolding fresh_demodulator fresh_dominance
  latching-fresh = record { ever = refl; report = refl; gate = refl; early = λ e. refl }

  -- the report is up exactly when the detector is up and some block that has ended since fresh was dominant
  pub reported-when : (ss : List Float)
      → reported (hearing (fresh_demodulator kind role) ss).after
      ≡ some_yes (blocks_in (fresh_demodulator kind role).dominance ss) && (hearing (fresh_demodulator kind role) ss).after.carrier.detected
  reported-when ss = (latching-on ss (fresh_demodulator kind role) false latching-fresh).report
