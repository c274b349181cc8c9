-- Calls of the receiver, one after the other, over lists. Assumes nothing.
use Prim.Native.Nat.{ℕ, suc, min, ◌+◌, ◌*◌, ◌-◌, ◌<◌, ◌≤◌, zero-le}
use mathlib.Core.Path.{◌≡◌, refl, sym, ap, ◌∙◌}
use mathlib.Core.Bool.{Bool, false}
use mathlib.Core.List.{List, [], ◌∷◌, ◌++◌, map, append_assoc}
use native.Mathlib.Nat.{add-zero, zero-add, add_assoc, sub-zero, min_comm, min-eq_right, min-le_left}
use native.Mathlib.Numerals.{add-one}
use native.Mathlib.Omega.{arith}
use lib.ListN.{length, get_or, set, take, drop, length-drop, length-map, length-take, take-append-drop}
use lib.Seq.{append_snoc, drop-cons, drop-drop, drop-length, get_or-drop, length-take-le, set_at, take_all, take-suc}
use lib.Ieee.{Float}
use Rattle.refusal.specs.Refusals.{Reply}
use Rattle.demodulation.specs.Demod.{events_of}
use Rattle.demodulation.specs.declared.demod.Carrier.{Carrier}
use Rattle.std.specs.Prelude.{Option}
use Rattle.modem.specs.Rx.{Receiver, receiver, wrote, written, ReadOut, read_out, read_of, Taken, taken, event_of, carrier_of, errors_of}
use Rattle.modem.specs.RxRep.{receiver_of}
use Rattle.modem.specs.declared.rx.Rx.{Rx}
use Rattle.calls.specs.Receive.{call_in, Called, called, relieved, call_reply, Run, ran, after, received_from}
use Rattle.numeric.proofs.Parts.{take_min, drop_min, part-next, part_left, put_front, put-behind, put-within}
use Rattle.calls.proofs.Parts.{part-put}
use Rattle.calls.specs.Answers.{number_in, count_in, bit, bit_in, heard_of}
use Rattle.calls.specs.ReceiveSteps.{Takes, Calls, Within, call_at, Stepped}
use Rattle.calls.specs.declared.answers.Heard.{Heard}
use Rattle.calls.specs.declared.receive.Call.{Call}
use Rattle.calls.specs.declared.receive.Place.{Place}

-- ---- events, one by one
bits-snoc : (es : List Bool) (e : Bool) → map bit (es ++ (e ∷ [])) ≡ map bit es ++ (bit e ∷ [])
bits-snoc [] e = refl
bits-snoc (x ∷ es) e = ap (λ (l : List ℕ). bit x ∷ l) (bits-snoc es e)

-- nothing lies behind the end
drop-over : (n : ℕ) (es : List Bool) → length es ≤ n → drop n es ≡ []
drop-over n es h = sym (drop_min n es) ∙ rw (min-eq_right h) (drop-length es)

-- i events are in the buffer
pub record Taking (r : Receiver) (buf : List ℕ) (i : ℕ) (r' : Receiver) (buf' : List ℕ) : Type 0 where
  pub waited : i ≤ length r.logged
  pub state : r' ≡ relieved 0 i r
  pub buffer : buf' ≡ map bit (take i r.logged) ++ drop i buf

pub taking-start : (r : Receiver) (buf : List ℕ) → Taking r buf 0 r buf
taking-start r buf = record { waited = zero-le; state = refl; buffer = refl }

module _ (r : Receiver) (buf : List ℕ) (i : ℕ) (r' : Receiver) (buf' : List ℕ) (t : Taking r buf i r' buf')
    (e : Option Carrier) (s : Receiver) (gave : taken (events_of e) s ≡ event_of r') (room : i < length buf) where
  event-is : events_of e ≡ take 1 (drop i r.logged)
  unfolding event_of
  event-is = ap (λ (x : Taken). x.event) gave ∙ ap (λ (x : Receiver). take 1 x.logged) t.state

  state-is : s ≡ relieved 0 (i + 1) r
  unfolding event_of
  state-is =
      ap (λ (x : Taken). x.state) gave
      ∙ ap (λ (x : Receiver). relieved 0 1 x) t.state
      ∙ ap (λ (es : List Bool). receiver r.demod r.waiting es r.accepted) (drop-drop 1 i r.logged)

  many : length (events_of e) ≡ min 1 (length r.logged - i)
  many = ap length event-is ∙ length-take 1 (drop i r.logged) ∙ ap (min 1) (length-drop i r.logged)

  -- one more
  module _ (one : length (events_of e) ≡ 0 → ⊥) (b : ℕ) (is : b ≡ bit_in (events_of e)) where
    waits : i < length r.logged
    waits = omega (arith, many, one)

    byte : b ≡ bit (get_or r.logged i false)
    byte =
        let oldest : take 1 (drop i r.logged) ≡ get_or r.logged i false ∷ [] = rw (drop-cons r.logged i false waits) in
        is ∙ ap bit_in (event-is ∙ oldest)

    written_byte : set buf' i b ≡ map bit (take (i + 1) r.logged) ++ drop (i + 1) buf
    written_byte =
        let front : length (map bit (take i r.logged)) ≡ i = length-map (take i r.logged) bit ∙ length-take-le i r.logged t.waited in
        rw (t.buffer, byte, add-one i, take-suc r.logged i false waits, bits-snoc (take i r.logged), append_snoc, drop-cons buf i 0 room)
        (set_at (map bit (take i r.logged)) (get_or buf i 0) (drop (suc i) buf) (bit (get_or r.logged i false)) i front)

    pub taking_step : Taking r buf (i + 1) s (set buf' i b)
    taking_step = record { waited = omega (arith, waits); state = state-is; buffer = written_byte }

  -- none waits
  pub taking-none : length (events_of e) ≡ 0 → Takes r buf i s buf'
  taking-none none =
      let all : length r.logged ≡ i = omega (arith, many, none, t.waited) in
      let whole : take (length buf) r.logged ≡ r.logged = take_all (length buf) r.logged (omega (arith, all, room)) in
      let those : take i r.logged ≡ r.logged = take_all i r.logged (omega (arith, all)) in
      let gone : drop (i + 1) r.logged ≡ drop (length buf) r.logged = drop-over (i + 1) r.logged (omega (arith, all)) ∙ sym (drop-over (length buf) r.logged (omega (arith, all, room))) in
      record {
        count = sym (ap length whole ∙ all);
        state = state-is ∙ ap (λ (es : List Bool). receiver r.demod r.waiting es r.accepted) gone;
        buffer = t.buffer ∙ ap (λ (es : List Bool). map bit es ++ drop i buf) (those ∙ sym whole);
      }

-- the buffer is full
pub taking-full : (r : Receiver) (buf : List ℕ) (i : ℕ) (r' : Receiver) (buf' : List ℕ) → i ≡ length buf → Taking r buf i r' buf' → Takes r buf i r' buf'
taking-full r buf i r' buf' is t =
    record {
      count = sym (length-take-le i r.logged t.waited) ∙ ap (λ (n : ℕ). length (take n r.logged)) is;
      state = t.state ∙ ap (λ (n : ℕ). relieved 0 n r) is;
      buffer = t.buffer ∙ ap (λ (n : ℕ). map bit (take n r.logged) ++ drop i buf) is;
    }

-- ---- one call
-- `read` into a buffer
read_is : (r : Receiver) (bs : List ℕ)
    → read_of r bs ≡ read_out (length (take (length bs) r.waiting)) (relieved (length bs) 0 r) (take (length bs) r.waiting ++ drop (length (take (length bs) r.waiting)) bs)
unfolding read_of
read_is r bs = rw (min_comm (length r.waiting) (length bs), length-take (length bs) r.waiting, take_min (length bs) r.waiting, drop_min (length bs) r.waiting)

module _ (rx : Rx) (xs : List Float) (bs es : List ℕ)
    (a : Reply ℕ) (s : Receiver) (wrote-is : wrote a s ≡ written (receiver_of rx) xs)
    (n : ℕ) (r : Receiver) (bs' : List ℕ) (read-was : read_out n r bs' ≡ read_of s bs)
    (m : ℕ) (q : Rx) (es' : List ℕ) (takes : Takes r es m (receiver_of q) es') where
  abbrev gives-call : Called
  gives-call = called (receiver_of rx) xs (length bs) (length es)

  -- the call from what the write left
  abbrev behind : Called
  behind = record { number = number_in a; bad_stops = count_in a; bytes = take (length bs) s.waiting; events = take (length es) s.logged; state = relieved (length bs) (length es) s }

  behind-is : gives-call ≡ behind
  unfolding called
  behind-is = rw (← wrote-is)

  read-now : read_out n r bs' ≡ read_out (length behind.bytes) (relieved (length bs) 0 s) (behind.bytes ++ drop (length behind.bytes) bs)
  read-now = read-was ∙ read_is s bs

  rest-is : r ≡ relieved (length bs) 0 s
  rest-is = ap (λ (x : ReadOut). x.state) read-now

  left_is : receiver_of q ≡ behind.state
  left_is = takes.state ∙ ap (relieved 0 (length es)) rest-is

  logged-is : take (length es) r.logged ≡ behind.events
  logged-is = ap (λ (x : Receiver). take (length es) x.logged) rest-is

  pub calls_is : (h : Heard) → h.number ≡ number_in a → h.bytes ≡ n → h.events ≡ m → h.carrier ≡ bit (carrier_of (receiver_of q)) → h.errors ≡ errors_of (receiver_of q)
      → h.bad_stops ≡ count_in a → Calls gives-call bs es h q bs' es'
  calls_is h e1 e2 e3 e4 e5 e6 =
      rw behind-is
      (record {
        reply = rw (e1, e2, e3, e4, e5, e6, ap (λ (x : ReadOut). x.count) read-now, takes.count, logged-is, left_is);
        state = left_is;
        bytes = ap (λ (x : ReadOut). x.buf) read-now;
        events = takes.buffer ∙ rw (takes.count, logged-is);
      })

-- ---- one call in the code: it lends the samples from p up to e, and bytes and events up to f and g; the call c of the definitions is run on these
-- parts, and leaves new lists in the place of the last two
-- no more than has room
few_bytes : (r : Receiver) (xs : List Float) (b e : ℕ) → length (called r xs b e).bytes ≤ b
unfolding called
few_bytes r xs b e = rw (length-take b) (min-le_left b _)

few-events : (r : Receiver) (xs : List Float) (b e : ℕ) → length (called r xs b e).events ≤ e
unfolding called
few-events r xs b e = rw (length-take e) (min-le_left e _)

part_length : (l : List ℕ) (from n e : ℕ) → e ≡ from + min n (length l - from) → length (take (e - from) (drop from l)) ≡ min n (length (drop from l))
part_length l from n e is = ap length (part-next l from n e is) ∙ length-take n (drop from l)

module _ (p : Place) (k : Call) (xs : List Float) (bs es : List ℕ) (at_p : Within p xs bs es) (e f g : ℕ)
    (e-is : e ≡ p.read + min k.samples (length xs - p.read)) (e-fits : e ≤ length xs)
    (f-is : f ≡ p.bytes + min k.bytes (length bs - p.bytes)) (g-is : g ≡ p.events + min k.events (length es - p.events)) where
  abbrev samples-lent : List Float
  samples-lent = take (e - p.read) (drop p.read xs)

  abbrev bytes-lent : List ℕ
  bytes-lent = take (f - p.bytes) (drop p.bytes bs)

  abbrev events-lent : List ℕ
  events-lent = take (g - p.events) (drop p.events es)

  abbrev run : Called
  run = called (receiver_of p.state) samples-lent (length bytes-lent) (length events-lent)

  run_is : run ≡ call_at p k xs bs es
  run_is = rw (part-next xs p.read k.samples e e-is, part_length bs p.bytes k.bytes f f-is, part_length es p.events k.events g g-is)

  module _ (h : Heard) (s : Rx) (bytes' events' : List ℕ) (calls : Calls run bytes-lent events-lent h s bytes' events') where
    abbrev bytes_after : List ℕ
    bytes_after = take p.bytes bs ++ (bytes' ++ drop (f - p.bytes) (drop p.bytes bs))

    abbrev events-after : List ℕ
    events-after = take p.events es ++ (events' ++ drop (g - p.events) (drop p.events es))

    abbrev place_after : Place
    place_after = record { state = s; read = e; bytes = p.bytes + h.bytes; events = p.events + h.events }

    bytes-are : bytes_after ≡ take p.bytes bs ++ (run.bytes ++ drop (length run.bytes) (drop p.bytes bs))
    bytes-are =
        rw (calls.bytes, part-put run.bytes (drop p.bytes bs) (length run.bytes) (f - p.bytes) (few_bytes (receiver_of p.state) samples-lent (length bytes-lent) (length events-lent)))

    events-are : events-after ≡ take p.events es ++ (map bit run.events ++ drop (length run.events) (drop p.events es))
    events-are =
        rw (calls.events, part-put (map bit run.events) (drop p.events es) (length run.events) (g - p.events) (few-events (receiver_of p.state) samples-lent (length bytes-lent) (length events-lent)))

    bytes-reply : h.bytes ≡ length run.bytes
    bytes-reply = ap (λ (l : List ℕ). get_or l 1 0) calls.reply

    events-reply : h.events ≡ length run.events
    events-reply = ap (λ (l : List ℕ). get_or l 2 0) calls.reply

    pub bytes_fit : p.bytes + h.bytes ≤ length bytes_after
    bytes_fit = rw (bytes-reply, bytes-are) (put-within bs run.bytes (drop (length run.bytes) (drop p.bytes bs)) p.bytes at_p.bytes)

    pub events-fit : p.events + h.events ≤ length events-after
    events-fit =
        rw (events-reply, events-are, ← length-map run.events bit)
        (put-within es (map bit run.events) (drop (length (map bit run.events)) (drop p.events es)) p.events at_p.events)

    pub call-within : Within place_after xs bytes_after events-after
    call-within = record { read = e-fits; bytes = bytes_fit; events = events-fit }

    pub call-steps : (before behind ans' : List ℕ) → ans' ≡ before ++ (heard_of h ++ behind) → Stepped p place_after k xs bs bytes_after es events-after before behind ans'
    call-steps before behind ans' reply-is =
        record {
          state = calls.state ∙ ap (λ (c : Called). c.state) run_is;
          left = part_left xs p.read k.samples e e-is;
          bytes_at = rw (← run_is, bytes-reply);
          events_at = rw (← run_is, events-reply);
          bytes = rw (← run_is) bytes-are;
          events = rw (← run_is) events-are;
          answers = reply-is ∙ ap (λ (l : List ℕ). before ++ (l ++ behind)) (calls.reply ∙ ap call_reply run_is);
        }

-- ---- calls before calls
after-after : (i j : ℕ) (bs bs' es es' us us' : List ℕ) (r : Run) → after i bs es us (after j bs' es' us' r) ≡ after (i + j) (bs ++ bs') (es ++ es') (us ++ us') r
after-after i j bs bs' es es' us us' r = rw (append_assoc bs, append_assoc es, append_assoc us, add_assoc i)

after-start : (r : Run) → after 0 [] [] [] r ≡ r
after-start r = rw (zero-add r.calls)

-- before the first of k calls
pub receive-start : (k : ℕ) (r : Receiver) (xs : List Float) (script bs es ans : List ℕ)
    → after 0 [] [] [] (received_from (k - 0) r xs script bs es ans) ≡ received_from k r xs script bs es ans
receive-start k r xs script bs es ans = rw (sub-zero k) (after-start (received_from k r xs script bs es ans))

-- one call more, with its answer behind the first 6 * i numbers of ans
module _ (script : List ℕ) (i : ℕ) (ans ans' : List ℕ) (room : 6 * i + 6 ≤ length ans) (p q : Place) (xs : List Float) (bs bs' es es' : List ℕ) (at_p : Within p xs bs es)
    (step : Stepped p q (call_in script i) xs bs bs' es es' (take (6 * i) ans) (drop (6 * i + 6) ans) ans') where
  abbrev gave : Called
  gave = call_at p (call_in script i) xs bs es

  abbrev bytes_left : List ℕ
  bytes_left = drop (length gave.bytes) (drop p.bytes bs)

  abbrev events-left : List ℕ
  events-left = drop (length gave.events) (drop p.events es)

  bytes-front : take q.bytes bs' ≡ take p.bytes bs ++ gave.bytes
  bytes-front = rw (step.bytes, step.bytes_at) (put_front bs gave.bytes bytes_left p.bytes at_p.bytes)

  bytes-behind : drop q.bytes bs' ≡ bytes_left
  bytes-behind = rw (step.bytes, step.bytes_at) (put-behind bs gave.bytes bytes_left p.bytes at_p.bytes)

  events-front : take q.events es' ≡ take p.events es ++ map bit gave.events
  events-front = rw (step.events, step.events_at, ← length-map gave.events bit) (put_front es (map bit gave.events) _ p.events at_p.events)

  events-behind : drop q.events es' ≡ events-left
  events-behind = rw (step.events, step.events_at, ← length-map gave.events bit) (put-behind es (map bit gave.events) _ p.events at_p.events)

  next_place : 6 * (i + 1) ≡ 6 * i + 6
  next_place = omega arith

  answered : take (6 * (i + 1)) ans' ≡ take (6 * i) ans ++ call_reply gave
  answered = rw (step.answers, next_place) (put_front ans (call_reply gave) (drop (6 * i + 6) ans) (6 * i) (omega arith))

  unanswered : drop (6 * (i + 1)) ans' ≡ drop 6 (drop (6 * i) ans)
  unanswered = rw (step.answers, next_place, drop-drop 6 (6 * i) ans) (put-behind ans (call_reply gave) (drop (6 * i + 6) ans) (6 * i) (omega arith))

  unrun : drop (3 * (i + 1)) script ≡ drop 3 (drop (3 * i) script)
  unrun =
      let three : 3 * (i + 1) ≡ 3 * i + 3 = omega arith in
      rw (three, drop-drop 3 (3 * i) script)

  first_of : get_or (drop (3 * i) script) 0 0 ≡ get_or script (3 * i) 0
  first_of = get_or-drop (3 * i) script 0 0 ∙ rw (add-zero (3 * i))

  step_is : (k : ℕ)
      → after (i + 1) (take q.bytes bs') (take q.events es') (take (6 * (i + 1)) ans') (received_from k (receiver_of q.state) (drop q.read xs) (drop (3 * (i + 1)) script) (drop q.bytes bs') (drop q.events es') (drop (6 * (i + 1)) ans'))
      ≡ after i (take p.bytes bs) (take p.events es) (take (6 * i) ans) (received_from (suc k) (receiver_of p.state) (drop p.read xs) (drop (3 * i) script) (drop p.bytes bs) (drop p.events es) (drop (6 * i) ans))
  unfolding received_from
  step_is k =
      rw (bytes-front, bytes-behind, events-front, events-behind, answered, unanswered, unrun, step.state, step.left, first_of, get_or-drop (3 * i) script 1 0, get_or-drop (3 * i) script 2 0)
      (sym (after-after i 1 (take p.bytes bs) gave.bytes (take p.events es) (map bit gave.events) (take (6 * i) ans) (call_reply gave)
      (received_from k gave.state (drop (get_or script (3 * i) 0) (drop p.read xs)) (drop 3 (drop (3 * i) script)) bytes_left events-left (drop 6 (drop (6 * i) ans)))))

  -- m calls were left
  pub receive-step : (k m : ℕ) → m ≡ suc k
      → after (i + 1) (take q.bytes bs') (take q.events es') (take (6 * (i + 1)) ans') (received_from k (receiver_of q.state) (drop q.read xs) (drop (3 * (i + 1)) script) (drop q.bytes bs') (drop q.events es') (drop (6 * (i + 1)) ans'))
      ≡ after i (take p.bytes bs) (take p.events es) (take (6 * i) ans) (received_from m (receiver_of p.state) (drop p.read xs) (drop (3 * i) script) (drop p.bytes bs) (drop p.events es) (drop (6 * i) ans))
  receive-step k m e = rw e (step_is k)

-- the last of j calls
pub receive-end : (i j : ℕ) → i ≡ j → (r : Receiver) (xs : List Float) (script bs es ans : List ℕ) (b e a : ℕ)
    → after i (take b bs) (take e es) (take a ans) (received_from (j - i) r xs script (drop b bs) (drop e es) (drop a ans)) ≡ ran j bs es ans
unfolding received_from
receive-end i j is r xs script bs es ans b e a =
    let z : j - i ≡ 0 = omega arith in
    rw (z, add-zero i, take-append-drop b bs, take-append-drop e es, take-append-drop a ans, is)
