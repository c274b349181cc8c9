-- A request refused, or its bits behind those that wait. Assumes nothing.
use Prim.Native.Nat.{ℕ}
use mathlib.Core.Path.{◌≡◌, refl, sym, ap, ◌∙◌}
use mathlib.Core.Bool.{Bool, true, false}
use mathlib.Core.List.{List, ◌++◌}
use Rattle.std.specs.Prelude.{if◌then◌else◌, Ok, Err}
use Rattle.refusal.specs.Refusals.{given, refused, reply_in}
use Rattle.refusal.specs.declared.Refusal.TheVariants.{BitsWait}
use Rattle.resampling.specs.ResampleRep.{state_of}
use Rattle.modulation.specs.Bits.{queued, queued_length, BitsHeld, Joined, bits_refused}
use Rattle.modulation.specs.Requests.{Request, bits_of, new_bits, is_refused}
use Rattle.modulation.specs.Tone.{keyer}
use Rattle.modulation.specs.Modulator.{modulator}
use Rattle.modulation.specs.ModulatorRep.{pending_in}
use Rattle.modulation.specs.Tx.{Sender, sender}
use Rattle.modulation.specs.TxRep.{modulator_of, sender_of, TxSound}
use Rattle.modulation.specs.Queueing.{Asks, queueing, sender_with, requested, with_bits}
use Rattle.modulation.specs.TableTx.{table_queueing, table_requested}
use Rattle.modulation.specs.TableTxRep.{table_of, TableSound, with_ring}
use Rattle.modulation.specs.declared.bits.Asked.{Asked}
use Rattle.modulation.specs.declared.tx.Tx.{Tx}
use Rattle.modulation.specs.declared.table_tx.TableTx.{TableTx}

-- ---- of the queue
module _ (a : List Bool) (h w : ℕ) (r : Request) (b : Bool) (test : b ≡ bits_refused w (new_bits r)) where
  -- the test that the code makes
  test-is : is_refused (queued a h w) r ≡ b
  test-is = ap (λ (n : ℕ). bits_refused n (new_bits r)) (queued_length a h w) ∙ sym test

  -- refused: the queue as it was
  pub asks_none : BitsHeld a h w → b ≡ true → Asks h a w r a (record { answer = Err BitsWait; waiting = w })
  asks_none held taken = let e = test-is ∙ taken in record { answer = rw e; waits = rw e; held = held }

  -- accepted: the bits behind the others
  pub asks-all : b ≡ false → (bits : List Bool) (m : ℕ) → Joined h a w (bits_of r) bits m → Asks h a w r bits (record { answer = Ok tt; waiting = m })
  asks-all left bits m j = let e = test-is ∙ left in record { answer = rw e; waits = rw e j.waits; held = j.held }

-- ---- a sender of the code's is sound
pub tx-sound-of : (t : Tx) → TxSound t
tx-sound-of t = record { rising = t.rising; bits = t.held; pending = t.pending_held; fed = t.fed; few = t.few }

pub table-sound-of : (t : TableTx) → TableSound t
table-sound-of t = record { hops = t.hops_held; keyed = t.keyed }

-- ---- of the senders: the queue is as `Asks` says, and all else as it was
module _ (t : Tx) where
  -- this sender with these bits
  abbrev with : List Bool → Sender
  with q =
      sender
      (modulator t.rate t.tones (keyer t.wave.nco t.wave.sym_pos t.wave.current q) (state_of t.resampler) (pending_in t.pending t.from t.upto) t.amplitude)
      t.served

  either : (q : List Bool) (r : Request) (b : Bool)
      → queueing (if b then refused 33 else given tt) (with (if b then q else q ++ bits_of r)) ≡ (if b then queueing (refused 33) (with q) else queueing (given tt) (sender_with (with q) (bits_of r)))
  either q r true = refl
  either q r false = refl

  pub queued-so : (s : Tx) (r : Request) (bits : List Bool) (x : Asked) → Asks t.wave.head t.bits t.wave.waiting r bits x → sender_of s ≡ with_bits t bits x.waiting
      → queueing (reply_in x.answer) (sender_of s) ≡ requested (sender_of t) r
  unfolding sender_of modulator_of requested
  queued-so s r bits x k is =
      let q = queued t.bits t.wave.head t.wave.waiting in
      rw (is, k.answer, k.waits) (either q r (is_refused q r))

pub queued-table : (t s : TableTx) (r : Request) (bits : List Bool) (x : Asked) → Asks t.keying.head t.bits t.keying.waiting r bits x
    → table_of s ≡ with_ring t bits x.waiting → table_queueing (reply_in x.answer) (table_of s) ≡ table_requested (table_of t) r
unfolding table_of table_requested
queued-table t s r bits x k is = rw (is, k.answer, k.waits)
