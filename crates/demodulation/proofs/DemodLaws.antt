-- What is heard in a list of samples: one list after another, one sample at a time, how many bytes and events, and what stays true of the
-- state. Assumes nothing.
use Prim.Native.Nat.{ℕ, ◌+◌, ◌*◌, ◌^◌, ◌<◌, ◌≤◌}
use mathlib.Core.Path.{◌≡◌, refl, sym, ap, ◌∙◌}
use mathlib.Core.Bool.{Bool, true, false, true≢false}
use mathlib.Core.List.{List, [], ◌∷◌, ◌++◌, append_assoc, append-nil}
use native.Mathlib.Numerals.{add-one}
use native.Mathlib.Omega.{arith}
use borrow.Author.Tests.{ltb-true, ltb-false}
use lib.Bits.{or_lt}
use lib.Dec.{ltb, ltb→lt}
use lib.Ieee.{Float}
use lib.ListN.{length, length-append, get_or, drop, drop_of_length-le}
use lib.Seq.{drop-cons}
use Rattle.std.specs.Bool.{if◌then◌else◌}
use Rattle.numeric.proofs.Tested.{at-number}
use Rattle.framing.specs.Frame.{with_bit, most_errors, ended, idle_bit, data_bit, stop_bit, bad_stop, bytes_of, bad_stops_of, Deframed, push_bit, heard, bad_stop_count, after}
use Rattle.framing.proofs.FrameLaws.{push-idle, push-data, push-stop}
use Rattle.framing.specs.Framing.{AreBytes, held}
use Rattle.framing.proofs.FramingLaws.{heard-append, after-append, bads-append, held-most, bit-few, bit-errors, bit-errors-most}
use Rattle.demodulation.specs.DemodRep.{DemodSound}
use Rattle.demodulation.specs.declared.demod.Demodulator as code
use Rattle.demodulation.specs.Demod.{Demodulator, Step, event_of, dropped_at, kept_by, fed, finished, decoded, step_of, fresh_demodulator, fall_of, change_of, word_of, happens_at, happens, before, hearing, reported, Tuned}
use Rattle.demodulation.specs.Carrier.{updated, dominance_step}
use Rattle.demodulation.specs.Correlation.{places, multiplied, advanced, correlated}
use Rattle.demodulation.specs.Timing.{sliced, sliced_bits, ticked}
use Rattle.demodulation.proofs.TimingLaws.{keeps-half-byte, slice-bits, slice-either}
use Rattle.demodulation.specs.Demod.{events_of}
use Rattle.bell103.specs.declared.Role.{Role}
use Rattle.framing.specs.declared.frame.Deframer.{Deframer}
use Rattle.framing.specs.declared.frame.Heard.{Heard}
use Rattle.framing.specs.declared.frame.Heard.TheVariants.{Byte, Waiting, BadStop}
use Rattle.happenings.specs.Happening.{bytes_in, changes_in, bad_stops_in}
use Rattle.happenings.proofs.HappeningLaws as happening
use Rattle.happenings.specs.declared.happening.Happening.{Happening}
use Rattle.demodulation.specs.declared.kind.Kind.{Kind}
use Rattle.demodulation.specs.declared.kind.Kind.TheVariants.{Bare, ForBoard}
use Rattle.demodulation.specs.declared.carrier.CarrierDetector.{CarrierDetector}
use Rattle.demodulation.specs.declared.demod.Latch.{Latch}
use Rattle.demodulation.specs.declared.correlator.Decision.{Decision}
use Rattle.demodulation.specs.declared.correlator.Correlator.{Correlator}
use Rattle.demodulation.specs.declared.demod.Carrier.{Carrier}
use Rattle.demodulation.specs.declared.demod.Carrier.TheVariants.{Up, Down}
use Rattle.std.specs.Prelude.{Option, Some, None}
use Rattle.demodulation.specs.Demod.{bits_at, bits_in, Sliced, last_of, joined}

-- ---- the half byte
-- what holds with no bit, behind every bit, and of an idle deframer, holds of what is sliced and then kept or dropped
kept_either : (d : Deframer) (soft : Float) (P : Deframer → Heard → Type 0) → P d Waiting → ((bit : Bool) → P (push_bit d bit).state (push_bit d bit).heard)
    → P (ended d d.errors) Waiting → (kind : Kind) (was up boundary : Bool)
    → P (kept_by kind was up (sliced d boundary up soft).state) (sliced d boundary up soft).heard
kept_either d soft P w g l Bare was up boundary = slice-either d soft (λ (x : Deframed). P x.state x.heard) w g boundary up
kept_either d soft P w g l ForBoard was true boundary = up-either was
  where
    up-either : (was : Bool) → P (dropped_at was true (sliced d boundary true soft).state) (sliced d boundary true soft).heard
    up-either true = slice-either d soft (λ (x : Deframed). P x.state x.heard) w g boundary true
    up-either false = slice-either d soft (λ (x : Deframed). P x.state x.heard) w g boundary true
kept_either d soft P w g l ForBoard true false boundary = rw (keeps-half-byte d soft boundary) l
kept_either d soft P w g l ForBoard false false boundary = rw (keeps-half-byte d soft boundary) w

-- ---- one step
module _ (d : Demodulator) (s : Float) where
  -- "nothing more until 27 samples are in"
  pub step_waits : (fed d s).corr.filled ≡ false → step_of d s ≡ record { state = fed d s; heard = Waiting; event = None }
  unfolding step_of
  step_waits h = ap (λ (f : Bool). if f then decoded (fed d s) else record { state = fed d s; heard = Waiting; event = None }) h

  pub step-decodes : (fed d s).corr.filled ≡ true → step_of d s ≡ decoded (fed d s)
  unfolding step_of
  step-decodes h = ap (λ (f : Bool). if f then decoded (fed d s) else record { state = fed d s; heard = Waiting; event = None }) h

  -- what holds of either holds of the step
  by_cases : (P : Step → Type 0) → P (record { state = fed d s; heard = Waiting; event = None }) → P (decoded (fed d s)) → P (step_of d s)
  unfolding step_of
  by_cases P w g = go (fed d s).corr.filled
    where
      go : (f : Bool) → P (if f then decoded (fed d s) else record { state = fed d s; heard = Waiting; event = None })
      go true = g
      go false = w

  -- the place and the phases move by one sample, whatever else happens
  pub corr-after : (step_of d s).state.corr ≡ advanced d.corr
  unfolding fed finished
  corr-after = by_cases (λ x. x.state.corr ≡ advanced d.corr) refl refl

  -- each ring has the sample's product at that place
  pub rings-after : (step_of d s).state.rings ≡ multiplied d.rings d.corr s
  unfolding fed finished
  rings-after = by_cases (λ x. x.state.rings ≡ multiplied d.rings d.corr s) refl refl

  -- the block goes on by the sample alone
  pub dominance-after : (step_of d s).state.dominance ≡ (dominance_step d.dominance s).state
  unfolding fed finished
  dominance-after = by_cases (λ x. x.state.dominance ≡ (dominance_step d.dominance s).state) refl refl

  -- what holds of the deframer with no bit, behind every bit, and of an idle one behind a loss, holds of a step's
  pub step-either : (P : Deframer → Heard → Type 0) → P d.deframer Waiting → ((bit : Bool) → P (push_bit d.deframer bit).state (push_bit d.deframer bit).heard)
      → P (ended d.deframer d.deframer.errors) Waiting → P (step_of d s).state.deframer (step_of d s).heard
  unfolding fed finished
  step-either P w g l =
      by_cases (λ x. P x.state.deframer x.heard) w
      (kept_either d.deframer _ P w g l d.kind d.carrier.detected _ _)

-- ---- what happens at a step, by its parts
module _ (was up : Bool) (event : Option Carrier) (heard : Heard) where
  fall-bytes : (was up : Bool) → bytes_in (fall_of was up) ≡ []
  unfolding bytes_in
  fall-bytes true true = refl
  fall-bytes true false = refl
  fall-bytes false true = refl
  fall-bytes false false = refl

  change-bytes : (event : Option Carrier) → bytes_in (change_of event) ≡ []
  unfolding bytes_in
  change-bytes None = refl
  change-bytes (Some Up) = refl
  change-bytes (Some Down) = refl

  word_bytes : (heard : Heard) → bytes_in (word_of heard) ≡ bytes_of heard
  unfolding bytes_in
  word_bytes (Byte b) = refl
  word_bytes Waiting = refl
  word_bytes BadStop = refl

  pub bytes_at : bytes_in (happens_at was up event heard) ≡ bytes_of heard
  bytes_at =
      rw (happening.bytes-append (fall_of was up) (change_of event ++ word_of heard), happening.bytes-append (change_of event) (word_of heard), fall-bytes was up, change-bytes event)
      (word_bytes heard)

  fall-changes : (was up : Bool) → changes_in (fall_of was up) ≡ []
  unfolding changes_in
  fall-changes true true = refl
  fall-changes true false = refl
  fall-changes false true = refl
  fall-changes false false = refl

  change-changes : (event : Option Carrier) → changes_in (change_of event) ≡ events_of event
  unfolding changes_in
  change-changes None = refl
  change-changes (Some Up) = refl
  change-changes (Some Down) = refl

  word-changes : (heard : Heard) → changes_in (word_of heard) ≡ []
  unfolding changes_in
  word-changes (Byte b) = refl
  word-changes Waiting = refl
  word-changes BadStop = refl

  pub changes-at : changes_in (happens_at was up event heard) ≡ events_of event
  changes-at =
      rw (happening.changes-append (fall_of was up) (change_of event ++ word_of heard), happening.changes-append (change_of event) (word_of heard), fall-changes was up, word-changes heard)
      (append-nil (changes_in (change_of event)) ∙ change-changes event)

  fall-bads : (was up : Bool) → bad_stops_in (fall_of was up) ≡ 0
  unfolding bad_stops_in
  fall-bads true true = refl
  fall-bads true false = refl
  fall-bads false true = refl
  fall-bads false false = refl

  change-bads : (event : Option Carrier) → bad_stops_in (change_of event) ≡ 0
  unfolding bad_stops_in
  change-bads None = refl
  change-bads (Some Up) = refl
  change-bads (Some Down) = refl

  word-bads : (heard : Heard) → bad_stops_in (word_of heard) ≡ bad_stops_of heard
  unfolding bad_stops_in
  word-bads (Byte b) = refl
  word-bads Waiting = refl
  word-bads BadStop = refl

  -- "a bad stop stands at its place": one for each that the deframer answered
  pub bads-at : bad_stops_in (happens_at was up event heard) ≡ bad_stops_of heard
  bads-at =
      rw (happening.bads-append (fall_of was up) (change_of event ++ word_of heard), happening.bads-append (change_of event) (word_of heard), fall-bads was up, change-bads event)
      (omega (arith, word-bads heard))

-- at most two: where the detector goes down, nothing is sliced
one-change : (event : Option Carrier) → length (change_of event) ≤ 1
one-change None = omega arith
one-change (Some Up) = omega arith
one-change (Some Down) = omega arith

one_word : (heard : Heard) → length (word_of heard) ≤ 1
one_word (Byte b) = omega arith
one_word Waiting = omega arith
one_word BadStop = omega arith

word-few : (heard : Heard) (event : Option Carrier) → length (change_of event ++ word_of heard) ≤ 2
word-few heard event = rw (length-append (change_of event) (word_of heard)) (omega (arith, one-change event, one_word heard))

two_at : (d : Deframer) (was up boundary : Bool) (soft : Float) (event : Option Carrier) → length (happens_at was up event (sliced d boundary up soft).heard) ≤ 2
two_at d true false boundary soft event = rw (keeps-half-byte d soft boundary, length-append (change_of event) []) (omega (arith, one-change event))
two_at d true true boundary soft event = word-few (sliced d boundary true soft).heard event
two_at d false up boundary soft event = word-few (sliced d boundary up soft).heard event

none-at : (up : Bool) → length (happens_at up up None Waiting) ≤ 2
none-at true = omega arith
none-at false = omega arith

two-of : (was : Bool) (c : Demodulator) (carrier : CarrierDetector) (latch : Latch) (soft : Float)
    → length (happens_at was (finished c carrier latch soft).state.carrier.detected (finished c carrier latch soft).event (finished c carrier latch soft).heard) ≤ 2
unfolding finished
two-of was c carrier latch soft =
    two_at c.deframer was carrier.detected (ticked c.kind c.timing soft).boundary soft (event_of c.latch.qualified latch.qualified)

pub step-two : (d : Demodulator) (s : Float) → length (happens d (step_of d s)) ≤ 2
unfolding fed
step-two d s =
    by_cases d s (λ x. length (happens d x) ≤ 2) (none-at d.carrier.detected) (two-of d.carrier.detected (fed d s) _ _ _)

-- ---- the parts of what is heard, sample by sample
module _ (d : Demodulator) (s : Float) (ss : List Float) where
  pub after_on : (hearing d (s ∷ ss)).after ≡ (hearing (step_of d s).state ss).after
  unfolding hearing
  after_on = refl

  pub bytes_on : bytes_in (hearing d (s ∷ ss)).happenings ≡ bytes_of (step_of d s).heard ++ bytes_in (hearing (step_of d s).state ss).happenings
  unfolding hearing
  bytes_on =
      happening.bytes-append (happens d (step_of d s)) (hearing (step_of d s).state ss).happenings
      ∙ ap (λ (l : List ℕ). l ++ bytes_in (hearing (step_of d s).state ss).happenings) (bytes_at d.carrier.detected (step_of d s).state.carrier.detected (step_of d s).event (step_of d s).heard)

  pub bads-on : bad_stops_in (hearing d (s ∷ ss)).happenings ≡ bad_stops_of (step_of d s).heard + bad_stops_in (hearing (step_of d s).state ss).happenings
  unfolding hearing
  bads-on =
      happening.bads-append (happens d (step_of d s)) (hearing (step_of d s).state ss).happenings
      ∙ ap (λ (n : ℕ). n + bad_stops_in (hearing (step_of d s).state ss).happenings) (bads-at d.carrier.detected (step_of d s).state.carrier.detected (step_of d s).event (step_of d s).heard)

-- ---- how many there can be
step-few : (d : Demodulator) (s : Float)
    → 10 * (length (bytes_of (step_of d s).heard) + bad_stops_of (step_of d s).heard) + held (step_of d s).state.deframer ≤ held d.deframer + 1
step-few d s =
    step-either d s (λ e h. 10 * (length (bytes_of h) + bad_stops_of h) + held e ≤ held d.deframer + 1) (omega arith) (bit-few d.deframer) (omega arith)

-- ten bits make a byte or a bad stop: ten for each are at most the bits held before and the samples
pub hearing-completed : (d : Demodulator) (ss : List Float)
    → 10 * (length (bytes_in (hearing d ss).happenings) + bad_stops_in (hearing d ss).happenings) + held (hearing d ss).after.deframer
    ≤ held d.deframer + length ss
hearing-completed d [] = unfold hearing bytes_in bad_stops_in in omega arith
hearing-completed d (s ∷ ss) =
    rw (after_on d s ss, bytes_on d s ss, bads-on d s ss, length-append (bytes_of (step_of d s).heard) (bytes_in (hearing (step_of d s).state ss).happenings))
    (omega (arith, step-few d s, hearing-completed (step_of d s).state ss))

-- bytes alone
pub hearing-few : (d : Demodulator) (ss : List Float)
    → 10 * length (bytes_in (hearing d ss).happenings) + held (hearing d ss).after.deframer ≤ held d.deframer + length ss
hearing-few d ss = omega (arith, hearing-completed d ss)

-- at most one of both a sample
pub hearing-few-any : (d : Demodulator) (ss : List Float) → length (bytes_in (hearing d ss).happenings) + bad_stops_in (hearing d ss).happenings ≤ length ss
hearing-few-any d ss = omega (arith, hearing-completed d ss, held-most d.deframer)

step-errors : (d : Demodulator) (s : Float) → d.deframer.errors + bad_stops_of (step_of d s).heard ≤ most_errors
    → (step_of d s).state.deframer.errors ≡ d.deframer.errors + bad_stops_of (step_of d s).heard
step-errors d s =
    step-either d s (λ e h. d.deframer.errors + bad_stops_of h ≤ most_errors → e.errors ≡ d.deframer.errors + bad_stops_of h)
    (λ _. omega arith) (bit-errors d.deframer) (λ _. omega arith)

-- the error count, where it has not held, has grown by the number of bad stops
pub hearing-errors : (d : Demodulator) (ss : List Float) → d.deframer.errors + bad_stops_in (hearing d ss).happenings ≤ most_errors
    → (hearing d ss).after.deframer.errors ≡ d.deframer.errors + bad_stops_in (hearing d ss).happenings
hearing-errors d [] h = unfold hearing bad_stops_in in omega arith
hearing-errors d (s ∷ ss) h =
    let b = bads-on d s ss in
    let e = step-errors d s (omega (arith, b, h)) in
    let r = hearing-errors (step_of d s).state ss (omega (arith, b, e, h)) in
    rw (after_on d s ss) (r ∙ omega (arith, b, e))

step-errors-most : (d : Demodulator) (s : Float) → (step_of d s).state.deframer.errors ≤ d.deframer.errors + bad_stops_of (step_of d s).heard
step-errors-most d s = step-either d s (λ e h. e.errors ≤ d.deframer.errors + bad_stops_of h) (omega arith) (bit-errors-most d.deframer) (omega arith)

-- it never grows by more
pub hearing-errors-most : (d : Demodulator) (ss : List Float)
    → (hearing d ss).after.deframer.errors ≤ d.deframer.errors + bad_stops_in (hearing d ss).happenings
hearing-errors-most d [] = unfold hearing bad_stops_in in omega arith
hearing-errors-most d (s ∷ ss) =
    rw (after_on d s ss, bads-on d s ss) (omega (arith, step-errors-most d s, hearing-errors-most (step_of d s).state ss))

-- at most two happenings a sample
pub hearing-two : (d : Demodulator) (ss : List Float) → length (hearing d ss).happenings ≤ 2 * length ss
unfolding hearing
hearing-two d [] = omega arith
hearing-two d (s ∷ ss) =
    rw (length-append (happens d (step_of d s)) (hearing (step_of d s).state ss).happenings) (omega (arith, step-two d s, hearing-two (step_of d s).state ss))

-- ---- the switch
kind-of : (d : Demodulator) (carrier : CarrierDetector) (latch : Latch) (soft : Float) → (finished d carrier latch soft).state.kind ≡ d.kind
unfolding finished
kind-of d carrier latch soft = refl

-- every step keeps it
pub step-kind : (d : Demodulator) (s : Float) → (step_of d s).state.kind ≡ d.kind
unfolding fed
step-kind d s = by_cases d s (λ x. x.state.kind ≡ d.kind) refl (kind-of (fed d s) _ _ _)

pub hearing-kind : (d : Demodulator) (ss : List Float) → (hearing d ss).after.kind ≡ d.kind
unfolding hearing
hearing-kind d [] = refl
hearing-kind d (s ∷ ss) = hearing-kind (step_of d s).state ss ∙ step-kind d s

-- ---- the bare receiver: "deframes the sliced bits", straight through
-- "At most one boundary a sample", so at most one bit
pub step-bits : (d : Demodulator) (s : Float) → d.kind ≡ Bare
    → Sliced d.deframer (bits_at d s) (step_of d s).state.deframer (bytes_of (step_of d s).heard) (bad_stops_of (step_of d s).heard) 1
unfolding step_of bits_at fed finished
step-bits d s bare = go (fed d s).corr.filled
  where
    o : Decision
    o = correlated (fed d s).rings

    kept : (k : Kind) (was up boundary : Bool) → k ≡ Bare
        → Sliced d.deframer (sliced_bits boundary up o.soft) (kept_by k was up (sliced d.deframer boundary up o.soft).state)
        (bytes_of (sliced d.deframer boundary up o.soft).heard) (bad_stops_of (sliced d.deframer boundary up o.soft).heard) 1
    kept k was up boundary e = rw e (slice-bits d.deframer o.soft boundary up)

    go : (f : Bool) → Sliced d.deframer
        (if f then sliced_bits (ticked d.kind d.timing o.soft).boundary (updated d.carrier o.energy).detected o.soft else [])
        (if f then decoded (fed d s) else record { state = fed d s; heard = Waiting; event = None }).state.deframer
        (bytes_of (if f then decoded (fed d s) else record { state = fed d s; heard = Waiting; event = None }).heard)
        (bad_stops_of (if f then decoded (fed d s) else record { state = fed d s; heard = Waiting; event = None }).heard) 1
    go true = kept d.kind d.carrier.detected _ _ bare
    go false = unfold heard bad_stop_count after in record { few = omega arith; left = refl; yields = refl; bad_stops = refl }

-- the deframer gets the bits of the samples, at most one of each, and its bytes and bad stops are those heard
pub hearing-bits : (d : Demodulator) (ss : List Float) → d.kind ≡ Bare
    → Sliced d.deframer (bits_in d ss) (hearing d ss).after.deframer (bytes_in (hearing d ss).happenings) (bad_stops_in (hearing d ss).happenings) (length ss)
unfolding bits_in
hearing-bits d [] bare = unfold hearing bytes_in bad_stops_in heard bad_stop_count after in record { few = omega arith; left = refl; yields = refl; bad_stops = refl }
hearing-bits d (s ∷ ss) bare =
    let x = step-bits d s bare in
    let y = hearing-bits (step_of d s).state ss (step-kind d s ∙ bare) in
    rw (after_on d s ss, bytes_on d s ss, bads-on d s ss)
    record {
      few = rw (length-append (bits_at d s) (bits_in (step_of d s).state ss)) (omega arith);
      left = after-append d.deframer (bits_at d s) (bits_in (step_of d s).state ss) ∙ rw x.left y.left;
      yields = heard-append d.deframer (bits_at d s) (bits_in (step_of d s).state ss) ∙ rw (x.left, x.yields, y.yields);
      bad_stops = bads-append d.deframer (bits_at d s) (bits_in (step_of d s).state ss) ∙ rw (x.left, x.bad_stops, y.bad_stops);
    }

-- ---- the board's
-- "At the step where the detector goes down, the board's receiver drops the half byte (deframer idle, error count kept)", and hears nothing else
pub lost-drops : (d : Demodulator) (s : Float) → d.kind ≡ ForBoard → d.carrier.detected ≡ true → (step_of d s).state.carrier.detected ≡ false
    → ((step_of d s).state.deframer ≡ ended d.deframer d.deframer.errors) × ((step_of d s).heard ≡ Waiting)
unfolding fed finished
lost-drops d s k was =
    by_cases d s
    (λ x. x.state.carrier.detected ≡ false → (x.state.deframer ≡ ended d.deframer d.deframer.errors) × (x.heard ≡ Waiting))
    (λ e. absurd (true≢false (sym was ∙ e))) (drops d.kind d.carrier.detected _ _ _ k was)
  where
    drops : (k : Kind) (was up boundary : Bool) (soft : Float) → k ≡ ForBoard → was ≡ true → up ≡ false
        → (kept_by k was up (sliced d.deframer boundary up soft).state ≡ ended d.deframer d.deframer.errors) × ((sliced d.deframer boundary up soft).heard ≡ Waiting)
    drops k was up boundary soft e f g = rw (e, f, g, keeps-half-byte d.deframer soft boundary) (refl, refl)

-- ---- what a bit leaves true
-- a deframer's byte so far stays a byte, as each byte that it gives is
record Kept (d : Deframer) (heard : Heard) : Type 0 where
  acc : d.acc < 256
  bytes : AreBytes (bytes_of heard)

weight : (k : ℕ) → k < 8 → 2 ^ k < 256
weight k h = ltb→lt (2 ^ k) 256 (at-number 8 (λ n. ltb (2 ^ n) 256) tt k h)

with_byte : (acc k : ℕ) (bit : Bool) → acc < 256 → k < 8 → with_bit acc k bit < 256
with_byte acc k true h p = or_lt 8 acc (2 ^ k) h (weight k p)
with_byte acc k false h p = h

idle-kept : (d : Deframer) (bit : Bool) → d.acc < 256 → Kept (idle_bit d bit).state (idle_bit d bit).heard
unfolding idle_bit
idle-kept d true h = record { acc = h; bytes = tt }
idle-kept d false h = record { acc = omega arith; bytes = tt }

stop-kept : (d : Deframer) (bit : Bool) → d.acc < 256 → Kept (stop_bit d bit).state (stop_bit d bit).heard
unfolding stop_bit bad_stop
stop-kept d true h = record { acc = h; bytes = (h, tt) }
stop-kept d false h = record { acc = h; bytes = tt }

data-kept : (d : Deframer) (bit : Bool) → d.acc < 256 → d.bit_count < 8 → Kept (data_bit d bit).state (data_bit d bit).heard
unfolding data_bit
data-kept d bit h p = record { acc = with_byte d.acc d.bit_count bit h p; bytes = tt }

push_kept : (d : Deframer) (bit : Bool) → d.acc < 256 → Kept (push_bit d bit).state (push_bit d bit).heard
push_kept d bit h = either d.in_frame refl
  where
    within : d.in_frame ≡ true → (t : Bool) → ltb d.bit_count 8 ≡ t → Kept (push_bit d bit).state (push_bit d bit).heard
    within e true t = rw (push-data d bit e (ltb-true _ _ t)) (data-kept d bit h (ltb-true _ _ t))
    within e false t = rw (push-stop d bit e (ltb-false _ _ t)) (stop-kept d bit h)

    either : (f : Bool) → d.in_frame ≡ f → Kept (push_bit d bit).state (push_bit d bit).heard
    either false e = rw (push-idle d bit e) (idle-kept d bit h)
    either true e = within e (ltb d.bit_count 8) refl

bytes-append : (xs ys : List ℕ) → AreBytes xs → AreBytes ys → AreBytes (xs ++ ys)
bytes-append [] ys p q = q
bytes-append (x ∷ xs) ys p q = (p.0, bytes-append xs ys p.1 q)

-- ---- what a step leaves true
pub next_place : (c : Correlator) → (advanced c).pos < places
unfolding advanced
next_place c = go (ltb (c.pos + 1) places) refl
  where
    go : (t : Bool) → ltb (c.pos + 1) places ≡ t → (if t then c.pos + 1 else 0) < places
    go true e = ltb-true (c.pos + 1) places e
    go false e = omega arith

-- a demodulator of the code's is sound: its core says so
pub demod-sound-of : (d : code.Demodulator) → DemodSound d
demod-sound-of d = record { place = d.core.place; byte = d.core.byte }

pub fresh-tuned : (kind : Kind) (role : Role) → Tuned (fresh_demodulator kind role)
unfolding fresh_demodulator
fresh-tuned kind role = record { place = omega arith; byte = omega arith }

step_kept : (d : Demodulator) (s : Float) → Tuned d → Kept (step_of d s).state.deframer (step_of d s).heard
step_kept d s h = step-either d s Kept (record { acc = h.byte; bytes = tt }) (λ bit. push_kept d.deframer bit h.byte) (record { acc = h.byte; bytes = tt })

pub step-tuned : (d : Demodulator) (s : Float) → Tuned d → Tuned (step_of d s).state
step-tuned d s h =
    record {
      place = rw (corr-after d s) (next_place d.corr);
      byte = (step_kept d s h).acc;
    }

pub hearing-tuned : (d : Demodulator) (ss : List Float) → Tuned d → Tuned (hearing d ss).after
unfolding hearing
hearing-tuned d [] h = h
hearing-tuned d (s ∷ ss) h = hearing-tuned (step_of d s).state ss (step-tuned d s h)

-- each byte heard is a byte
pub hearing-bytes : (d : Demodulator) (ss : List Float) → Tuned d → AreBytes (bytes_in (hearing d ss).happenings)
hearing-bytes d [] h = unfold hearing bytes_in in tt
hearing-bytes d (s ∷ ss) h =
    rw (bytes_on d s ss)
    (bytes-append (bytes_of (step_of d s).heard) (bytes_in (hearing (step_of d s).state ss).happenings) (step_kept d s h).bytes
    (hearing-bytes (step_of d s).state ss (step-tuned d s h)))

last-append : (was : Bool) (xs ys : List Bool) → last_of was (xs ++ ys) ≡ last_of (last_of was xs) ys
last-append was [] ys = refl
last-append was (x ∷ xs) ys = last-append x xs ys

reports : (was now : Bool) → now ≡ last_of was (events_of (event_of was now))
reports true true = refl
reports true false = refl
reports false true = refl
reports false false = refl

few-events : (e : Option Carrier) → length (events_of e) ≤ 1
few-events None = omega arith
few-events (Some Up) = omega arith
few-events (Some Down) = omega arith

step-reports : (d : Demodulator) (s : Float) → reported (step_of d s).state ≡ last_of (reported d) (events_of (step_of d s).event)
unfolding fed finished
step-reports d s =
    by_cases d s (λ x. reported x.state ≡ last_of (reported d) (events_of x.event)) refl (reports (reported d) _)

-- the report stands as the last change says, or as before
pub hearing-reports : (d : Demodulator) (ss : List Float) → reported (hearing d ss).after ≡ last_of (reported d) (changes_in (hearing d ss).happenings)
unfolding hearing
hearing-reports d [] = unfold changes_in in refl
hearing-reports d (s ∷ ss) =
    let x = happens d (step_of d s) in
    let y = (hearing (step_of d s).state ss).happenings in
    rw (happening.changes-append x y, changes-at _ _ (step_of d s).event (step_of d s).heard)
    (hearing-reports (step_of d s).state ss
    ∙ ap (λ (b : Bool). last_of b (changes_in y)) (step-reports d s)
    ∙ sym (last-append (reported d) (events_of (step_of d s).event) (changes_in y)))

-- at most one change a sample
pub hearing-changes : (d : Demodulator) (ss : List Float) → length (changes_in (hearing d ss).happenings) ≤ length ss
unfolding hearing
hearing-changes d [] = unfold changes_in in omega arith
hearing-changes d (s ∷ ss) =
    let x = happens d (step_of d s) in
    let y = (hearing (step_of d s).state ss).happenings in
    rw (happening.changes-append x y, changes-at _ _ (step_of d s).event (step_of d s).heard, length-append (events_of (step_of d s).event) (changes_in y))
    (omega (arith, few-events (step_of d s).event, hearing-changes (step_of d s).state ss))

-- ---- one list after another
pub hearing-none : (d : Demodulator) → hearing d [] ≡ record { after = d; happenings = [] }
unfolding hearing
hearing-none d = refl

pub hearing-first : (d : Demodulator) (s : Float) (ss : List Float) → hearing d (s ∷ ss) ≡ before d (step_of d s) (hearing (step_of d s).state ss)
unfolding hearing
hearing-first d s ss = refl

pub hearing-append : (d : Demodulator) (xs ys : List Float) → hearing d (xs ++ ys) ≡ joined (hearing d xs) (hearing (hearing d xs).after ys)
unfolding hearing
hearing-append d [] ys = refl
hearing-append d (x ∷ xs) ys = ap (before d (step_of d x)) (hearing-append (step_of d x).state xs ys) ∙ again
  where
    again : before d (step_of d x) (joined (hearing (step_of d x).state xs) (hearing (hearing (step_of d x).state xs).after ys))
        ≡ joined (before d (step_of d x) (hearing (step_of d x).state xs)) (hearing (hearing (step_of d x).state xs).after ys)
    again = ap (λ (l : List Happening). record { after = (hearing (hearing (step_of d x).state xs).after ys).after; happenings = l }) (sym (append_assoc (happens d (step_of d x)) _ _))

-- ---- for a loop over the samples: what is heard from place i on, after the sample at i and before it
module _ (d : Demodulator) (ss : List Float) (i : ℕ) (z : Float) (h : i < length ss) where
  pub hearing-turn : hearing d (drop i ss) ≡ before d (step_of d (get_or ss i z)) (hearing (step_of d (get_or ss i z)).state (drop (i + 1) ss))
  unfolding hearing
  hearing-turn = rw (add-one, drop-cons ss i z h)

  pub after_turn : (hearing (step_of d (get_or ss i z)).state (drop (i + 1) ss)).after ≡ (hearing d (drop i ss)).after
  after_turn = rw hearing-turn

  -- behind what happened so far
  pub happenings-turn : (so_far : List Happening)
      → (so_far ++ happens d (step_of d (get_or ss i z))) ++ (hearing (step_of d (get_or ss i z)).state (drop (i + 1) ss)).happenings
      ≡ so_far ++ (hearing d (drop i ss)).happenings
  happenings-turn so_far = rw (hearing-turn, append_assoc)

-- the end of it
pub hearing-end : (d : Demodulator) (ss : List Float) (i : ℕ) → length ss ≤ i → hearing d (drop i ss) ≡ record { after = d; happenings = [] }
hearing-end d ss i h = rw (drop_of_length-le ss h) (hearing-none d)
