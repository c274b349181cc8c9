-- rx.rs at 8,000 Hz, operation by operation: what one sample makes of the state, and what is heard in a list of samples. Assumes nothing.
use Rattle.std.specs.Prelude.{ℕ, ◌<◌, ◌≤◌, Bool, true, false, not, ◌&&◌, ◌||◌, List, [], ◌∷◌, ◌++◌, Float, ◌≡◌, length, if◌then◌else◌, Option, Some, None}
use Rattle.numeric.specs.F64.{whole}
use Rattle.refusal.specs.Refusals.{dsp_rate}
use Rattle.bell103.specs.Roles.{other_role, tones_of}
use Rattle.framing.specs.Frame.{fresh_deframer, ended, heard, bad_stop_count, after}
use Rattle.demodulation.specs.Correlation.{places, rings_of, multiplied, advanced, correlated, fresh_ring, fresh_correlator}
use Rattle.demodulation.specs.Timing.{ticked, sliced, sliced_bits, fresh_timing}
use Rattle.demodulation.specs.Carrier.{fresh_detector, updated, BlockAnswer, goes_on, ends_with, fresh_dominance, dominance_step}
use Rattle.bell103.specs.declared.Role.{Role}
use Rattle.bell103.specs.declared.TonePair.{TonePair}
use Rattle.framing.specs.declared.frame.Deframer.{Deframer}
use Rattle.framing.specs.declared.frame.Heard.{Heard}
use Rattle.framing.specs.declared.frame.Heard.TheVariants.{Byte, Waiting, BadStop}
use Rattle.happenings.specs.declared.happening.Happening.{Happening}
use Rattle.happenings.specs.declared.happening.Happening.TheVariants as happening
use Rattle.demodulation.specs.declared.kind.Kind.{Kind}
use Rattle.demodulation.specs.declared.kind.Kind.TheVariants.{Bare, ForBoard}
use Rattle.demodulation.specs.declared.carrier.ToneDominance.{ToneDominance}
use Rattle.demodulation.specs.declared.correlator.Correlator.{Correlator}
use Rattle.demodulation.specs.declared.timing.Timing.{Timing}
use Rattle.demodulation.specs.declared.carrier.CarrierDetector.{CarrierDetector}
use Rattle.demodulation.specs.declared.correlator.Rings.{Rings}
use Rattle.demodulation.specs.declared.demod.Latch.{Latch}
use Rattle.demodulation.specs.declared.demod.Carrier.{Carrier}
use Rattle.demodulation.specs.declared.demod.Carrier.TheVariants.{Up, Down}
use Rattle.numeric.specs.Fold.{fold}

-- ---- the latch, and its event
-- a finished block's verdict opens or shuts the gate
abbrev pub gate_after : Bool → BlockAnswer → Bool
gate_after gate goes_on = gate
gate_after gate (ends_with dominant narrow others) = dominant

-- qualified_ever: the gate was open once; qualified, which is reported: that, and the detector is up
unfoldable pub latched : Latch → Bool → Bool → Latch
latched l gate up = record { qualified = (l.qualified_ever || gate) && up; qualified_ever = l.qualified_ever || gate }

-- the event of a step: a change of the report
abbrev pub event_of : Bool → Bool → Option Carrier
event_of false true = Some Up
event_of true false = Some Down
event_of true true = None
event_of false false = None

-- ---- one sample
-- the receiver at 8,000 Hz: whom it listens for; "the correlator's rings" and phases; dominance and its gate; detector, latched report, timing,
-- deframer
pub record Demodulator : Type 0 where
  pub kind : Kind
  pub rings : Rings
  pub corr : Correlator
  pub dominance : ToneDominance
  pub gate_open : Bool
  pub carrier : CarrierDetector
  pub latch : Latch
  pub timing : Timing
  pub deframer : Deframer

-- the state after a sample, and what came of it: the deframer's answer to its bit, waiting where it has none, and a change of the report
pub record Step : Type 0 where
  pub state : Demodulator
  pub heard : Heard
  pub event : Option Carrier

-- "products, phases, ring place; dominance": a block that this sample ends has its say in this step
unfoldable pub fed : Demodulator → Float → Demodulator
fed d s =
    let judged = dominance_step d.dominance s in
    record {
      kind = d.kind;
      rings = multiplied d.rings d.corr s;
      corr = advanced d.corr;
      dominance = judged.state;
      gate_open = gate_after d.gate_open judged.answer;
      carrier = d.carrier;
      latch = d.latch;
      timing = d.timing;
      deframer = d.deframer;
    }

-- "At the step where the detector goes down, the board's receiver drops the half byte (deframer idle, error count kept)"
abbrev pub dropped_at : Bool → Bool → Deframer → Deframer
dropped_at was up d = if was && not up then ended d d.errors else d

-- "The bare receiver keeps Rust's half byte"
abbrev pub kept_by : Kind → Bool → Bool → Deframer → Deframer
kept_by Bare was up d = d
kept_by ForBoard was up d = dropped_at was up d

-- "event; timing; slice", with the detector and the latch as this sample leaves them
unfoldable pub finished : Demodulator → CarrierDetector → Latch → Float → Step
finished d carrier latch soft =
    let t = ticked d.kind d.timing soft in
    let bit = sliced d.deframer t.boundary carrier.detected soft in
    record {
      state =
          record {
            kind = d.kind;
            rings = d.rings;
            corr = d.corr;
            dominance = d.dominance;
            gate_open = d.gate_open;
            carrier = carrier;
            latch = latch;
            timing = t.state;
            deframer = kept_by d.kind d.carrier.detected carrier.detected bit.state;
          };
      heard = bit.heard;
      event = event_of d.latch.qualified latch.qualified;
    }

-- "correlate, in place order; detector; latch; event; timing; slice"
abbrev pub decoded : Demodulator → Step
decoded d =
    let o = correlated d.rings in
    let carrier = updated d.carrier o.energy in
    let latch = latched d.latch d.gate_open carrier.detected in
    finished d carrier latch o.soft

-- "nothing more until 27 samples are in"
unfoldable pub step_of : Demodulator → Float → Step
step_of d s = if (fed d s).corr.filled then decoded (fed d s) else record { state = fed d s; heard = Waiting; event = None }

-- ---- a fresh one
abbrev pub fresh_on : Kind → TonePair → TonePair → Demodulator
fresh_on kind far own =
    record {
      kind = kind;
      rings = rings_of fresh_ring fresh_ring fresh_ring fresh_ring;
      corr = fresh_correlator far.mark far.space;
      dominance = fresh_dominance far.mark own.mark own.space (whole dsp_rate);
      gate_open = false;
      carrier = fresh_detector;
      latch = record { qualified = false; qualified_ever = false };
      timing = fresh_timing;
      deframer = fresh_deframer;
    }

-- "It listens on the other role's tones"
unfoldable pub fresh_demodulator : Kind → Role → Demodulator
fresh_demodulator kind role = fresh_on kind (tones_of (other_role role)) (tones_of role)

-- ---- what happens at a step, in order
-- the detector goes down: from `was` to `up`
abbrev pub fall_of : Bool → Bool → List Happening
fall_of true false = happening.Lost ∷ []
fall_of true true = []
fall_of false up = []

-- a change of the report
abbrev pub change_of : Option Carrier → List Happening
change_of None = []
change_of (Some Up) = happening.Up ∷ []
change_of (Some Down) = happening.Down ∷ []

-- what a bit completed
abbrev pub word_of : Heard → List Happening
word_of (Byte b) = happening.Byte b ∷ []
word_of Waiting = []
word_of BadStop = happening.BadStop ∷ []

-- "detector; latch; event; timing; slice": in this order
abbrev pub happens_at : Bool → Bool → Option Carrier → Heard → List Happening
happens_at was up event heard = fall_of was up ++ (change_of event ++ word_of heard)

-- of a step from the state d
abbrev pub happens : Demodulator → Step → List Happening
happens d x = happens_at d.carrier.detected x.state.carrier.detected x.event x.heard

-- ---- a list of samples
-- the state after a list of samples, and what they are heard as: all that happened, in order. The bytes, the bad stops, the losses and the
-- changes of the report are parts of that one list (crate happenings: bytes_in, bad_stops_in, changes_in)
pub record Hearing : Type 0 where
  pub after : Demodulator
  pub happenings : List Happening

-- an event as a list: one, true for up, or none
abbrev pub events_of : Option Carrier → List Bool
events_of None = []
events_of (Some Up) = true ∷ []
events_of (Some Down) = false ∷ []

-- what a step from d gives, before what is heard from its state on
abbrev pub before : Demodulator → Step → Hearing → Hearing
before d x rest = record { after = rest.after; happenings = happens d x ++ rest.happenings }

-- first sample first
unfoldable pub hearing : Demodulator → List Float → Hearing
hearing d [] = record { after = d; happenings = [] }
hearing d (s ∷ ss) = before d (step_of d s) (hearing (step_of d s).state ss)

-- carrier_detected: the latched report
abbrev pub reported : Demodulator → Bool
reported d = d.latch.qualified

-- what holds of each state that a fresh one and its steps gave: the ring place is one of the ring's, and the byte so far is a byte
pub record Tuned (d : Demodulator) : Type 0 where
  pub place : d.corr.pos < places
  pub byte : d.deframer.acc < 256

-- ---- the deframer, bit by bit
-- the bit that a step slices: one, or none; "nothing more until 27 samples are in"
unfoldable pub bits_at : Demodulator → Float → List Bool
bits_at d s =
    let o = correlated (fed d s).rings in
    if (fed d s).corr.filled
    then sliced_bits (ticked d.kind (fed d s).timing o.soft).boundary (updated (fed d s).carrier o.energy).detected o.soft
    else []

-- the bits that these samples are sliced to, in order
unfoldable pub bits_in : Demodulator → List Float → List Bool
bits_in d [] = []
bits_in d (s ∷ ss) = bits_at d s ++ bits_in (step_of d s).state ss

-- "deframes the sliced bits": the deframer before these bits and after them, the bytes that they yield and how many are bad stops; n samples
-- made them
pub record Sliced (d : Deframer) (bits : List Bool) (e : Deframer) (bytes : List ℕ) (bad n : ℕ) : Type 0 where
  pub few : length bits ≤ n
  pub left : after d bits ≡ e
  pub yields : heard d bits ≡ bytes
  pub bad_stops : bad_stop_count d bits ≡ bad

-- ---- "nothing more until 27 samples are in"
-- these samples bring nothing, and leave detector, latch, timing and deframer as they were
pub record Waits (d : Demodulator) (ss : List Float) : Type 0 where
  pub nothing : (hearing d ss).happenings ≡ []
  pub carrier : (hearing d ss).after.carrier ≡ d.carrier
  pub latch : (hearing d ss).after.latch ≡ d.latch
  pub timing : (hearing d ss).after.timing ≡ d.timing
  pub deframer : (hearing d ss).after.deframer ≡ d.deframer

-- ---- events
-- what the last of them says; where there is none, as before
abbrev pub last_of : Bool → List Bool → Bool
last_of was events = fold (λ (b c : Bool). c) was events

-- two hearings, the second from where the first ended
abbrev pub joined : Hearing → Hearing → Hearing
joined x y = record { after = y.after; happenings = x.happenings ++ y.happenings }

-- ---- bare, and for a board
-- d, of another kind and with another deframer
abbrev pub remade : Kind → Deframer → Demodulator → Demodulator
remade kind deframer d =
    record {
      kind = kind;
      rings = d.rings;
      corr = d.corr;
      dominance = d.dominance;
      gate_open = d.gate_open;
      carrier = d.carrier;
      latch = d.latch;
      timing = d.timing;
      deframer = deframer;
    }

-- d, made for a board
abbrev pub for_board : Demodulator → Demodulator
for_board d = remade ForBoard d.deframer d

-- the carrier is lost at none of these samples
unfoldable pub NoneLost : Demodulator → List Float → Type 0
NoneLost d [] = Unit
NoneLost d (s ∷ ss) = (fall_of d.carrier.detected (step_of d s).state.carrier.detected ≡ []) × NoneLost (step_of d s).state ss
