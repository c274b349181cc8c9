-- The receiver's state as a list of f64, for comparisons bit for bit. Whole numbers stand as themselves, yes and no as 1.0 and 0.0. Assumes nothing.
use Rattle.std.specs.Prelude.{ℕ, zero, suc, min, Bool, List, [], ◌∷◌, ◌++◌, ltb, length, get_or, take, drop, Float}
use Rattle.std.specs.Float.{nan}
use Rattle.numeric.specs.F64.{whole, zero64, one64}
use Rattle.std.specs.Prelude.{if◌then◌else◌}
use Rattle.refusal.specs.Refusals.{rate_refused}
use Rattle.resampling.specs.Numbers.{tap_numbers, history_numbers, window_numbers}
use Rattle.resampling.specs.Resample.{State}
use Rattle.modem.specs.Queue.{most_bytes, most_events}
use Rattle.modem.specs.Rx.{Receiver, fresh_receiver}
use Rattle.demodulation.specs.declared.carrier.ToneDominance.{ToneDominance}
use Rattle.demodulation.specs.declared.carrier.CarrierDetector.{CarrierDetector}
use Rattle.demodulation.specs.declared.correlator.Correlator.{Correlator}
use Rattle.demodulation.specs.declared.timing.Timing.{Timing}
use Rattle.demodulation.specs.Demod.{Demodulator}
use Rattle.framing.specs.declared.frame.Deframer.{Deframer}
use Rattle.demodulation.specs.declared.goertzel.Goertzel.{Goertzel}
use Rattle.calls.specs.Receive.{called, to_write, to_read, to_take, calls_in}
use Rattle.calls.specs.Roles.{role_of}

-- yes as 1.0 and no as 0.0
abbrev pub truth : Bool → Float
truth b = if b then one64 else zero64

-- the resampler: its taps; its filter's history, newest first; the window of four; place, count and step
abbrev pub resampler_numbers : State → List Float
resampler_numbers s = tap_numbers s ++ (history_numbers s ++ window_numbers s)

abbrev pub resampler_length : ℕ
resampler_length = 753

-- the correlator's place, whether its rings are filled, and the four rings in place order
abbrev pub place_numbers : Correlator → List Float
place_numbers c = whole c.pos ∷ truth c.filled ∷ []

abbrev pub ring_numbers : Demodulator → List Float
ring_numbers d = place_numbers d.corr ++ (d.rings.mark_i ++ (d.rings.mark_q ++ (d.rings.space_i ++ d.rings.space_q)))

-- phases, timing, deframer and detector
abbrev pub tone_numbers : Correlator → Timing → Deframer → CarrierDetector → List Float
tone_numbers c t d l =
    c.phase_m ∷ c.phase_s ∷ c.inc_m ∷ c.inc_s
    ∷ t.sym_phase ∷ t.sym_inc ∷ t.last_sym ∷ t.mid_sym ∷ truth t.have_mid
    ∷ truth d.in_frame ∷ whole d.bit_count ∷ whole d.acc ∷ whole d.errors
    ∷ l.level ∷ l.floor ∷ truth l.detected ∷ whole l.holdoff ∷ []

-- the i-th probe of an array: its coefficient and two states
abbrev no_probe : Goertzel
no_probe = record { coeff = nan; s1 = nan; s2 = nan }

abbrev pub probe_at : List Goertzel → ℕ → List Float
probe_at gs i = (get_or gs i no_probe).coeff ∷ (get_or gs i no_probe).s1 ∷ (get_or gs i no_probe).s2 ∷ []

-- the dominance's five probes around the mark, and the two at the own tones
abbrev pub mark_numbers : ToneDominance → List Float
mark_numbers d = probe_at d.mark 0 ++ (probe_at d.mark 1 ++ (probe_at d.mark 2 ++ (probe_at d.mark 3 ++ probe_at d.mark 4)))

abbrev pub own_numbers : ToneDominance → List Float
own_numbers d = probe_at d.own 0 ++ probe_at d.own 1

-- the place in a block of 256
abbrev pub block_number : ℕ → Float
block_number n = if ltb n 256 then whole n else zero64

-- the rest of the dominance, the latch, how many bytes and events wait, and how many samples were accepted
abbrev pub last_numbers : Receiver → List Float
last_numbers r =
    let c = r.demod.inner in
    c.dominance.wideband ∷ block_number c.dominance.count ∷ truth c.gate_open ∷ truth c.latch.qualified ∷ truth c.latch.qualified_ever
    ∷ whole (length r.waiting) ∷ whole (length r.logged) ∷ whole r.accepted ∷ []

-- all of it: 909 numbers
unfoldable pub state_numbers : Receiver → List Float
state_numbers r =
    let c = r.demod.inner in
    resampler_numbers r.demod.resampler
    ++ (ring_numbers r.demod.inner
    ++ (tone_numbers c.corr c.timing c.deframer c.carrier
    ++ (mark_numbers c.dominance
    ++ (own_numbers c.dominance
    ++ last_numbers r))))

abbrev pub state_length : ℕ
state_length = 909

-- the receiver after k calls of a script, with room for all that can wait: 512 bytes and 64 events
unfoldable pub receiver_after : ℕ → Receiver → List Float → List ℕ → Receiver
receiver_after zero r xs script = r
receiver_after (suc k) r xs script =
    receiver_after k (called r (take (to_write script) xs) (min (to_read script) most_bytes) (min (to_take script) most_events)).state (drop (to_write script) xs) (drop 3 script)

-- the receiver after all calls of a script
abbrev pub scripted_receiver : Receiver → List Float → List ℕ → Receiver
scripted_receiver r xs script = receiver_after (calls_in script) r xs script

-- what the function leaves: its number, and the lent list
pub record Shown : Type 0 where
  pub number : ℕ
  pub state : List Float

abbrev pub shown : ℕ → List Float → Shown
shown n l = record { number = n; state = l }

-- from a receiver on: 1 and the state behind all calls of the script, at the front of the list
abbrev pub state_run_from : Receiver → List Float → List ℕ → List Float → Shown
state_run_from r xs script l = shown 1 (state_numbers (scripted_receiver r xs script) ++ drop state_length l)

-- the same from a fresh receiver on; 0 and the list as it was where it is too short or the rate is refused
unfoldable pub state_run : ℕ → ℕ → List Float → List ℕ → List Float → Shown
state_run rate role xs script l =
    if ltb (length l) state_length then shown 0 l
    else if rate_refused rate then shown 0 l
    else state_run_from (fresh_receiver rate (role_of role)) xs script l
