-- Both ends' framing: what the sender is asked to queue is what the deframer of the other end hears. Assumes nothing.
use Prim.Native.Nat.{ℕ}
use native.Mathlib.Omega.{arith}
use mathlib.Core.Path.{◌≡◌, refl, sym, ap, ◌∙◌}
use mathlib.Core.Bool.{Bool, true, false}
use mathlib.Core.List.{List, [], ◌∷◌, ◌++◌, append_assoc, append-nil}
use Rattle.std.specs.Prelude.{if◌then◌else◌}
use Rattle.framing.specs.Frame.{mark, Idle, bad_stops_of, push_bit, yielded, heard, bad_stop_count, after}
use Rattle.framing.specs.Framing.{AreBytes, HeardAs}
use Rattle.framing.proofs.FramingLaws.{heard-append, after-append, bads-append, marks-heard, frames-heard}
use Rattle.framing.specs.declared.frame.Deframer.{Deframer}
use Rattle.modulation.specs.Requests.{Request, bits_of, bytes_in, is_refused, asked, sent_by, Turn, symbols, queue_after, bytes_asked, OfBytes, write, idle_mark, ask, symbol}

request-heard : (d : Deframer) → Idle d → (r : Request) → AreBytes (bytes_in r) → HeardAs d (bits_of r) (bytes_in r)
request-heard d p (write bytes) h = frames-heard d p bytes h
request-heard d p (idle_mark n) h = marks-heard d p n

-- these bits are heard as these bytes, with no bad stop, and leave the deframer idle, with e errors counted
record Ends (d : Deframer) (bits : List Bool) (bytes : List ℕ) (e : ℕ) : Type 0 where
  same : heard d bits ≡ bytes
  errors : (after d bits).errors ≡ e
  bads : bad_stop_count d bits ≡ 0
  idle : Idle (after d bits)

more : (d : Deframer) (e : ℕ) (xs ys : List Bool) (bs cs : List ℕ) → Ends d xs bs e → HeardAs (after d xs) ys cs → Ends d (xs ++ ys) (bs ++ cs) e
more d e xs ys bs cs x y =
    record {
      same = heard-append d xs ys ∙ rw (x.same, y.same);
      errors = rw (after-append d xs ys) (y.no_error ∙ x.errors);
      bads = bads-append d xs ys ∙ rw (x.bads, y.no_bad_stop);
      idle = rw (after-append d xs ys) y.idle;
    }

-- a bit in front
before : (d : Deframer) (e : ℕ) (b : Bool) (bits : List Bool) (bytes : List ℕ) → bad_stops_of (push_bit d b).heard ≡ 0 → Ends (push_bit d b).state bits bytes e
    → Ends d (b ∷ bits) (yielded d b ++ bytes) e
unfolding heard bad_stop_count after
before d e b bits bytes z x =
    record { same = ap (λ (l : List ℕ). yielded d b ++ l) x.same; errors = x.errors; bads = omega (arith, z, x.bads); idle = x.idle }

-- and without it
behind : (d : Deframer) (e : ℕ) (b : Bool) (bits : List Bool) (bytes : List ℕ) → Ends d (b ∷ bits) bytes e → Ends (push_bit d b).state bits (heard (push_bit d b).state bits) e
unfolding heard bad_stop_count after
behind d e b bits bytes x = record { same = refl; errors = x.errors; bads = omega (arith, x.bads); idle = x.idle }

-- and that bit alone
no-bad : (d : Deframer) (b : Bool) (bits : List Bool) → bad_stop_count d (b ∷ bits) ≡ 0 → bad_stops_of (push_bit d b).heard ≡ 0
unfolding bad_stop_count
no-bad d b bits h = omega (arith, h)

-- a request is accepted, or refused
asked-ends : (d : Deframer) (e : ℕ) (q : List Bool) (bs : List ℕ) (r : Request) → Ends d q bs e → AreBytes (bytes_in r) → Ends d (asked q r) (bs ++ sent_by q r) e
asked-ends d e q bs r x h = go (is_refused q r)
  where
    go : (t : Bool) → Ends d (if t then q else q ++ bits_of r) (bs ++ (if t then [] else bytes_in r)) e
    go true = rw (append-nil bs) x
    go false = more d e q (bits_of r) bs (bytes_in r) x (request-heard (after d q) x.idle r h)

-- the idle mark that is sent where no bit waits
idle-none : (d : Deframer) → Idle d → yielded d mark ≡ []
unfolding heard
idle-none d p = sym (append-nil (yielded d mark)) ∙ (marks-heard d p 1).same

idle-ends : (d : Deframer) (e : ℕ) (bs : List ℕ) → Ends d [] bs e → Ends (push_bit d mark).state [] [] e
unfolding heard bad_stop_count after
idle-ends d e bs x = let m = marks-heard d x.idle 1 in record { same = refl; errors = m.no_error ∙ x.errors; bads = refl; idle = m.idle }

-- all that was sent and still waits, where bs were still to be heard of the queue
all-heard : (d : Deframer) (e : ℕ) (q : List Bool) (bs : List ℕ) → Ends d q bs e → (ts : List Turn) → OfBytes ts → Ends d (symbols q ts ++ queue_after q ts) (bs ++ bytes_asked q ts) e
unfolding symbols queue_after bytes_asked heard after
all-heard d e q bs x [] h = rw (append-nil bs) x
all-heard d e q bs x (ask r ∷ ts) h =
    rw (append_assoc bs (sent_by q r) (bytes_asked (asked q r) ts)) at (all-heard d e (asked q r) (bs ++ sent_by q r) (asked-ends d e q bs r x h.0) ts h.1)
all-heard d e [] bs x (symbol ∷ ts) h =
    rw (sym x.same) (rw (idle-none d x.idle) at (before d e mark _ _ (no-bad d mark [] (marks-heard d x.idle 1).no_bad_stop) (all-heard (push_bit d mark).state e [] [] (idle-ends d e bs x) ts h)))
all-heard d e (b ∷ q) bs x (symbol ∷ ts) h =
    rw (sym x.same) (rw (append_assoc (yielded d b) _ _) (before d e b _ _ (no-bad d b q x.bads) (all-heard (push_bit d b).state e q _ (behind d e b q bs x) ts h)))

-- "What is sent is heard": from an empty queue and an idle deframer on, whatever is asked and refused in between, the symbols sent and the bits that still
-- wait are heard as the bytes of the accepted writes, in order, without error and with no bad stop, and leave the deframer idle
pub both_ends : (d : Deframer) → Idle d → (ts : List Turn) → OfBytes ts → HeardAs d (symbols [] ts ++ queue_after [] ts) (bytes_asked [] ts)
unfolding heard bad_stop_count after
both_ends d p ts h =
    let x = all-heard d d.errors [] [] (record { same = refl; errors = refl; bads = refl; idle = p }) ts h in
    record { same = x.same; no_error = x.errors; no_bad_stop = x.bads; idle = x.idle }

-- so do the symbols alone, once all bits are sent
pub all-sent : (d : Deframer) → Idle d → (ts : List Turn) → OfBytes ts → queue_after [] ts ≡ [] → HeardAs d (symbols [] ts) (bytes_asked [] ts)
all-sent d p ts h e = rw (ap (λ (l : List Bool). symbols [] ts ++ l) e ∙ append-nil (symbols [] ts)) at (both_ends d p ts h)
