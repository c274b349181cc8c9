-- A symbol, a sample, a slice and a call of the sender that has no floats, from what the code's parts ensure. Assumes nothing.
use Rattle.refusal.specs.declared.Refusal.{Refusal}
use Prim.Native.Nat.{ℕ, zero, suc, ◌+◌, ◌*◌, ◌-◌, ◌%◌, ◌/◌, ◌<◌, ◌≤◌}
use mathlib.Core.Path.{◌≡◌, refl, sym, ap, ◌∙◌}
use mathlib.Core.Bool.{Bool, true, false}
use mathlib.Core.List.{List, [], ◌∷◌, ◌++◌, append_assoc, append-nil}
use native.Mathlib.Omega.{arith}
use borrow.Author.Tests.{le-leb, lt-leb}
use lib.IntN.{ℤ}
use lib.ListN.{length, set, take}
use lib.Seq.{take_all}
use Rattle.std.specs.Prelude.{if◌then◌else◌, Result, is_ok}
use Rattle.refusal.specs.Refusals.{given, reply_in, reply_of}
use Rattle.bell103.specs.declared.Role.{Role}
use Rattle.bell103.specs.declared.Role.TheVariants.{Originate, Answer}
use Rattle.modulation.specs.Bits.{queued, next_bit, rest_bits, Takes}
use Rattle.modulation.specs.Tx.{read_refused}
use Rattle.modulation.specs.Table.{places, entry_of}
use Rattle.modulation.specs.TableTx.{Phase, phase, begins, begun, hops_of, hop_of, moved, Sent, sending, sent, table_sender, table_reading, table_read_of}
use Rattle.modulation.specs.Keying.{phase_of, Keyed, HopsHeld, Begins}
use Rattle.modulation.specs.TableTxRep.{table_of}
use Rattle.modulation.specs.declared.bits.Taken.{Taken}
use Rattle.modulation.specs.declared.table_tx.Hops.{Hops}
use Rattle.modulation.specs.declared.table_tx.Keying.{Keying}
use Rattle.modulation.specs.declared.table_tx.TableTx.{TableTx}
use Rattle.modulation.proofs.Tones.{left-turn, left-none, one_set}
use Rattle.modulation.proofs.Calls.{some-refused}

-- ---- a symbol
module _ (a : List Bool) (k : Keying) (h : Keyed a k) where
  pub goes_on : 3 * k.samples < 80 * k.symbols → Begins a k k
  unfolding begun
  goes_on l =
      record {
        is = rw (lt-leb (80 * k.symbols) (3 * k.samples) l);
        bits = h.bits;
        place = refl;
        samples = refl;
        clock = omega (arith, h.clock, l);
      }

  pub begins-so : (t : Taken) → 80 * k.symbols ≤ 3 * k.samples → Takes a k.head k.waiting t
      → Begins a k (record { head = t.head; waiting = t.waiting; current = t.bit; place = k.place; symbols = k.symbols + 1; samples = k.samples })
  unfolding begun
  begins-so t l u =
      record {
        is = rw (le-leb (80 * k.symbols) (3 * k.samples) l, u.bit, u.rest);
        bits = u.held;
        place = refl;
        samples = refl;
        clock = omega (arith, h.clock, l);
      }

  -- ---- a sample
  pub steps-so : (hops : Hops) (b : Keying) (p hop : ℕ) → Begins a k b → k.samples < 4294967296 → hop ≡ hop_of hops b.current → p ≡ (b.place + hop) % places
      → (phase_of a (record { head = b.head; waiting = b.waiting; current = b.current; place = p; symbols = b.symbols; samples = b.samples + 1 }) ≡ moved hops (begun (phase_of a k)))
      × Keyed a (record { head = b.head; waiting = b.waiting; current = b.current; place = p; symbols = b.symbols; samples = b.samples + 1 })
  unfolding moved
  steps-so hops b p hop s l e f =
      let c = s.clock in
      let n = s.samples in (
        ap (λ (q : ℕ). phase q b.current b.symbols (b.samples + 1) (queued a b.head b.waiting)) (f ∙ ap (λ (q : ℕ). (b.place + q) % places) e) ∙ ap (moved hops) s.is,
        record { bits = s.bits; at = omega (arith, f); clock = omega (arith, c, n); few = omega (arith, n, l) },
      )

pub samples-one-on : (h : Hops) (k : Phase) → (moved h (begun k)).samples ≡ k.samples + 1
unfolding moved begun
samples-one-on h k = go (begins k.symbols k.samples)
  where
    go : (b : Bool) → (if b then phase k.place (next_bit k.bits) (k.symbols + 1) k.samples (rest_bits k.bits) else k).samples + 1 ≡ k.samples + 1
    go true = refl
    go false = refl

pub one_on : (a : List Bool) (h : Hops) (k r : Keying) → phase_of a r ≡ moved h (begun (phase_of a k)) → r.samples ≡ k.samples + 1
one_on a h k r e = ap (λ (x : Phase). x.samples) e ∙ samples-one-on h (phase_of a k)

pub hop-held : (h : Hops) → HopsHeld h → (c : Bool) → hop_of h c ≤ places
hop-held h s true = s.mark
hop-held h s false = s.space

pub hops-held : (role : Role) → HopsHeld (hops_of role)
unfolding hops_of
hops-held Originate = record { mark = omega arith; space = omega arith }
hops-held Answer = record { mark = omega arith; space = omega arith }

-- ---- a slice of samples: those written, and those that are left
abbrev pub sent_at : List ℤ → ℕ → ℕ → Hops → Phase → Sent
sent_at out i n h k = sending (take i out ++ (sent (n - i) h k).samples) (sent (n - i) h k).after

module _ (n : ℕ) (h : Hops) where
  pub sent-start : (out : List ℤ) (k : Phase) → sent_at out 0 n h k ≡ sent n h k
  sent-start out k = let z : n - 0 ≡ n = omega arith in rw z

  pub sent-turn : (out : List ℤ) (i : ℕ) (k : Phase) (v : ℤ) (k' : Phase) → i < n → i < length out → v ≡ entry_of k.place → k' ≡ moved h (begun k)
      → sent_at (set out i v) (i + 1) n h k' ≡ sent_at out i n h k
  unfolding sent
  sent-turn out i k v k' l m ev ek = rw (left-turn n i l, ← ev, ← ek, one_set out i v m, append_assoc)

  pub sent-done : (out : List ℤ) (i : ℕ) (k : Phase) → length out ≡ n → length out ≤ i → sending out k ≡ sent_at out i n h k
  unfolding sent
  sent-done out i k l m = let g : n ≤ i = omega arith in rw (left-none n i g, take_all i out m, append-nil)

-- ---- `read`
pub reads_none : (t : TableTx) (o : List ℤ) (a : Result Unit Refusal) → reply_in a ≡ reply_of (read_refused t.keying.samples (length o)) → is_ok a ≡ false
    → table_reading (reply_in a) (table_of t) o ≡ table_read_of (table_of t) o
unfolding table_read_of table_of
reads_none t o a e n = let s = some-refused a (read_refused t.keying.samples (length o)) e n in rw (e, s.1)

pub reads_whole : (t : TableTx) (o o' : List ℤ) (k : Keying) (a : Result Unit Refusal) → reply_in a ≡ reply_of (read_refused t.keying.samples (length o)) → read_refused t.keying.samples (length o) ≡ 0
    → sending o' (phase_of t.bits k) ≡ sent (length o) t.hops (phase_of t.bits t.keying)
    → table_reading (reply_in a) (table_sender t.hops (phase_of t.bits k)) o' ≡ table_read_of (table_of t) o
unfolding table_read_of table_of
reads_whole t o o' k a e z f = rw (e, z) (ap (λ (s : Sent). table_reading (given tt) (table_sender t.hops s.after) s.samples) f)
