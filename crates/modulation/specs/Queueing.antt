-- What a caller queues for the sender: `write` and `write_idle_mark`. Assumes nothing.
use Rattle.std.specs.Prelude.{ℕ, ◌≡◌, refl, Bool, true, false, List, ◌++◌}
use Rattle.std.specs.Prelude.{if◌then◌else◌}
use Rattle.refusal.specs.Refusals.{Reply, given, refused, reply_in}
use Rattle.modulation.specs.Requests.{Request, write, idle_mark, bits_of, is_refused, reply_to, asked}
use Rattle.modulation.specs.Bits.{queued, BitsHeld}
use Rattle.modulation.specs.Tone.{keyer}
use Rattle.modulation.specs.Modulator.{Modulator, modulator}
use Rattle.modulation.specs.ModulatorRep.{pending_in}
use Rattle.modulation.specs.Tx.{Sender, sender}
use Rattle.resampling.specs.ResampleRep.{state_of}
use Rattle.modulation.specs.declared.bits.Asked.{Asked}
use Rattle.modulation.specs.declared.tx.Tx.{Tx}

-- a request of a queue that stands in the ring a: its answer, and the queue afterwards, in the ring b. Both senders use it
pub record Asks (head : ℕ) (a : List Bool) (waiting : ℕ) (r : Request) (b : List Bool) (x : Asked) : Type 0 where
  pub answer : reply_in x.answer ≡ reply_to (queued a head waiting) r
  pub waits : queued b head x.waiting ≡ asked (queued a head waiting) r
  pub held : BitsHeld b head x.waiting

-- these bits behind those that wait; all else as it was
abbrev pub modulator_with : Modulator → List Bool → Modulator
modulator_with m new =
    modulator m.rate m.tones (keyer m.keyer.nco m.keyer.sym_pos m.keyer.current (m.keyer.bits ++ new)) m.resampler m.pending m.amplitude

abbrev pub sender_with : Sender → List Bool → Sender
sender_with s new = sender (modulator_with s.modulator new) s.served

-- what a call leaves: its answer, and the sender
pub record Queueing : Type 0 where
  pub answer : Reply Unit
  pub state : Sender

abbrev pub queueing : Reply Unit → Sender → Queueing
queueing a s = record { answer = a; state = s }

-- "33 waiting + new bits exceed 4,096", and "A refused call returns its number alone and leaves state and buffers untouched"
unfoldable pub requested : Sender → Request → Queueing
requested s r =
    if is_refused s.modulator.keyer.bits r then queueing (refused 33) s else queueing (given tt) (sender_with s (bits_of r))

-- so the bits that wait change as `asked` says, and what `both_ends` (proofs/RequestLaws.antt) says of them holds for the sender
pub requested_asks : (s : Sender) (r : Request) → (requested s r).state.modulator.keyer.bits ≡ asked s.modulator.keyer.bits r
unfolding requested
requested_asks s r = go (is_refused s.modulator.keyer.bits r)
  where
    go : (t : Bool) → (if t then queueing (refused 33) s else queueing (given tt) (sender_with s (bits_of r))).state.modulator.keyer.bits
        ≡ (if t then s.modulator.keyer.bits else s.modulator.keyer.bits ++ bits_of r)
    go true = refl
    go false = refl

-- Tx::write: ten bits for each byte
abbrev pub write_of : Sender → List ℕ → Queueing
write_of s bytes = requested s (write bytes)

-- Tx::write_idle_mark: n bit periods of mark
abbrev pub idle_mark_of : Sender → ℕ → Queueing
idle_mark_of s n = requested s (idle_mark n)

-- the sender with another ring, in which so many bits wait
abbrev pub with_bits : Tx → List Bool → ℕ → Sender
with_bits t bits waiting =
    let k = keyer t.wave.nco t.wave.sym_pos t.wave.current (queued bits t.wave.head waiting) in
    sender (modulator t.rate t.tones k (state_of t.resampler) (pending_in t.pending t.from t.upto) t.amplitude) t.served
