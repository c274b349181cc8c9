-- What is framed is heard, and what is heard was framed. Assumes nothing.
use Prim.Native.Nat.{ℕ, zero, suc, ◌+◌, ◌*◌, ◌/◌, ◌<◌, ◌≤◌, min}
use mathlib.Core.Path.{◌≡◌, refl, sym, ap, subst, ◌∙◌}
use mathlib.Core.Bool.{Bool, true, false, not, ◌&&◌}
use mathlib.Core.List.{List, [], ◌∷◌, ◌++◌, append_assoc}
use native.Mathlib.Omega.{arith}
use borrow.Author.Tests.{ltb-true, ltb-false}
use lib.Dec.{T, ltb, ltb→lt, eqb, eqb→eq}
use lib.ListN.{length, length-append}
use Rattle.std.specs.Prelude.{if◌then◌else◌}
use Rattle.framing.specs.declared.frame.Deframer.{Deframer}
use Rattle.framing.specs.Frame.{mark, space, frame_of, fresh_deframer, Idle, one_more, most_errors, idle_bit, data_bit, stop_bit, bad_stop, bytes_of, bad_stops_of, Deframed, push_bit, yielded, heard, bad_stop_count, after}
use Rattle.framing.proofs.FrameLaws.{push-idle, push-data, push-stop}
use Rattle.numeric.proofs.Tested.{both_left, both_right, at-number, at_bits, same_bits, same_bits_lem}
use Rattle.framing.specs.Framing.{Sent, marks, frames_of, line, bytes_sent, AreBytes, HeardAs, AtStop, SpaceAtStop, held, is_bad_stop, Told}

-- ---- one list of bits after another
pub heard-append : (d : Deframer) (xs ys : List Bool) → heard d (xs ++ ys) ≡ heard d xs ++ heard (after d xs) ys
unfolding heard after
heard-append d [] ys = refl
heard-append d (x ∷ xs) ys =
    ap (λ (l : List ℕ). yielded d x ++ l) (heard-append (push_bit d x).state xs ys)
    ∙ sym (append_assoc (yielded d x) (heard (push_bit d x).state xs) (heard (after (push_bit d x).state xs) ys))

pub after-append : (d : Deframer) (xs ys : List Bool) → after d (xs ++ ys) ≡ after (after d xs) ys
unfolding after
after-append d [] ys = refl
after-append d (x ∷ xs) ys = after-append (push_bit d x).state xs ys

pub bads-append : (d : Deframer) (xs ys : List Bool) → bad_stop_count d (xs ++ ys) ≡ bad_stop_count d xs + bad_stop_count (after d xs) ys
unfolding bad_stop_count after
bads-append d [] ys = omega arith
bads-append d (x ∷ xs) ys = omega (arith, bads-append (push_bit d x).state xs ys)

pub frames-length : (bs : List ℕ) → length (frames_of bs) ≡ 10 * length bs
unfolding frames_of
frames-length [] = refl
frames-length (b ∷ bs) = rw (length-append (frame_of b) (frames_of bs)) (omega (arith, frames-length bs))

-- one list of bits after another
pub joined : (d : Deframer) (xs ys : List Bool) (bs cs : List ℕ) → HeardAs d xs bs → HeardAs (after d xs) ys cs → HeardAs d (xs ++ ys) (bs ++ cs)
joined d xs ys bs cs x y =
    record {
      same = heard-append d xs ys ∙ rw (x.same, y.same);
      no_error = rw (after-append d xs ys) (y.no_error ∙ x.no_error);
      no_bad_stop = bads-append d xs ys ∙ rw (x.no_bad_stop, y.no_bad_stop);
      idle = rw (after-append d xs ys) y.idle;
    }

-- every idle deframer is one of these
abbrev idle_with : ℕ → ℕ → ℕ → Deframer
idle_with n a e = record { in_frame = false; bit_count = n; acc = a; errors = e }

idle-is : (d : Deframer) → Idle d → d ≡ idle_with d.bit_count d.acc d.errors
idle-is d p = ap (λ (f : Bool). record { in_frame = f; bit_count = d.bit_count; acc = d.acc; errors = d.errors }) p

mark-is : (n a e : ℕ) → HeardAs (idle_with n a e) (mark ∷ []) []
unfolding heard bad_stop_count after push_bit idle_bit
mark-is n a e = record { same = refl; no_error = refl; no_bad_stop = refl; idle = refl }

pub marks-heard : (d : Deframer) → Idle d → (n : ℕ) → HeardAs d (marks n) []
unfolding heard bad_stop_count after
marks-heard d p zero = record { same = refl; no_error = refl; no_bad_stop = refl; idle = p }
marks-heard d p (suc n) =
    let m : HeardAs d (mark ∷ []) [] = rw (idle-is d p) (mark-is d.bit_count d.acc d.errors) in
    joined d (mark ∷ []) (marks n) [] [] m (marks-heard (after d (mark ∷ [])) m.idle n)

-- one test over the 256 bytes
frame-held : (n a e : ℕ) (b : ℕ) → b < 256 → (after (idle_with n a e) (frame_of b)).acc ≡ b
unfolding after push_bit idle_bit data_bit stop_bit bad_stop
frame-held n a e b h = eqb→eq _ b (at-number 256 (λ k. eqb (after (idle_with n a e) (frame_of k)).acc k) tt b h)

frame_is : (n a e : ℕ) (b : ℕ) → b < 256 → HeardAs (idle_with n a e) (frame_of b) (b ∷ [])
unfolding heard bad_stop_count after push_bit idle_bit data_bit stop_bit bad_stop
frame_is n a e b h = record { same = ap (λ (x : ℕ). x ∷ []) (frame-held n a e b h); no_error = refl; no_bad_stop = refl; idle = refl }

pub frame-heard : (d : Deframer) → Idle d → (b : ℕ) → b < 256 → HeardAs d (frame_of b) (b ∷ [])
frame-heard d p b h = rw (idle-is d p) (frame_is d.bit_count d.acc d.errors b h)

pub frames-heard : (d : Deframer) → Idle d → (bs : List ℕ) → AreBytes bs → HeardAs d (frames_of bs) bs
unfolding frames_of heard bad_stop_count after
frames-heard d p [] _ = record { same = refl; no_error = refl; no_bad_stop = refl; idle = p }
frames-heard d p (b ∷ bs) h =
    let f = frame-heard d p b h.0 in
    joined d (frame_of b) (frames_of bs) (b ∷ []) bs f (frames-heard (after d (frame_of b)) f.idle bs h.1)

-- all bytes come back, the same and in order, whatever marks stand before, between and after them
pub framed-heard : (d : Deframer) → Idle d → (ss : List Sent) (end : ℕ) → AreBytes (bytes_sent ss) → HeardAs d (line ss end) (bytes_sent ss)
framed-heard d p [] end _ = marks-heard d p end
framed-heard d p (s ∷ ss) end h =
    let m = marks-heard d p s.gap in
    let f = frame-heard (after d (marks s.gap)) m.idle s.byte h.0 in
    joined d (marks s.gap) (frame_of s.byte ++ line ss end) [] (bytes_sent (s ∷ ss)) m
    (joined (after d (marks s.gap)) (frame_of s.byte) (line ss end) (s.byte ∷ []) (bytes_sent ss) f
    (framed-heard (after (after d (marks s.gap)) (frame_of s.byte)) f.idle ss end h.1))

-- ---- what is heard was framed
-- a test: these bits yield nothing, or just one byte, whose frame they are
abbrev framed : List ℕ → List Bool → Bool
framed [] l = true
framed (b ∷ []) l = same_bits l (frame_of b) && ltb b 256
framed (b ∷ (c ∷ bs)) l = false

-- one test over the 1,024 lists of ten bits
ten-bits : (n a e : ℕ) (l : List Bool) → length l ≡ 10 → T (framed (heard (idle_with n a e) l) l)
unfolding heard push_bit idle_bit data_bit stop_bit bad_stop
ten-bits n a e l h = at_bits 10 (λ m. framed (heard (idle_with n a e) m) m) tt l h

framed_is : (b : ℕ) (bs : List ℕ) (l : List Bool) → T (framed (b ∷ bs) l) → (bs ≡ []) × (l ≡ frame_of b) × (b < 256)
framed_is b [] l t =
    (refl, same_bits_lem l (frame_of b) (both_left (same_bits l (frame_of b)) (ltb b 256) t), ltb→lt b 256 (both_right (same_bits l (frame_of b)) (ltb b 256) t))
framed_is b (c ∷ bs) l t = absurd t

-- ten bits from idle that yield a byte yield no other, are that byte's frame, and hold no bad stop
pub heard-frame : (d : Deframer) → Idle d → (l : List Bool) → length l ≡ 10 → (b : ℕ) (bs : List ℕ) → heard d l ≡ b ∷ bs
    → (bs ≡ []) × (l ≡ frame_of b) × (b < 256) × (bad_stop_count d l ≡ 0)
heard-frame d p l n b bs e =
    let f =
    framed_is b bs l
    (subst (λ (r : List ℕ). T (framed r l)) (ap (λ (x : Deframer). heard x l) (sym (idle-is d p)) ∙ e) (ten-bits d.bit_count d.acc d.errors l n)) in
    (f.0, f.1, f.2, ap (bad_stop_count d) f.1 ∙ (frame-heard d p b f.2).no_bad_stop)

pub bad-stop : (d : Deframer) → AtStop d → SpaceAtStop d
unfolding heard bad_stop_count after stop_bit bad_stop
bad-stop d at =
    let e : push_bit d space ≡ bad_stop d = push-stop d space at.0 at.1 in
    let i : Idle (after d (space ∷ [])) = ap (λ (x : Deframed). x.state.in_frame) e in
    record {
      one_error = ap (λ (x : Deframed). x.state.errors) e;
      idle = i;
      nothing = ap (λ (x : Deframed). bytes_of x.heard ++ []) e;
      told = ap (λ (x : Deframed). bad_stops_of x.heard + 0) e;
      starts_nothing = marks-heard (after d (space ∷ [])) i;
    }

-- "The error count holds at 4,294,967,295": one more below that, the same there
pub one-more-below : (n : ℕ) → n < most_errors → one_more n ≡ n + 1
one-more-below n h = omega arith

pub one-more-held : one_more most_errors ≡ most_errors
one-more-held = refl

held-idle : (d : Deframer) → Idle d → held d ≡ 0
held-idle d p = ap (λ (f : Bool). if f then 1 + min d.bit_count 8 else 0) p

held-frame : (d : Deframer) → d.in_frame ≡ true → held d ≡ 1 + min d.bit_count 8
held-frame d p = ap (λ (f : Bool). if f then 1 + min d.bit_count 8 else 0) p

pub held-most : (d : Deframer) → held d ≤ 9
held-most d = go d.in_frame
  where
    go : (f : Bool) → (if f then 1 + min d.bit_count 8 else 0) ≤ 9
    go true = omega arith
    go false = omega arith

-- ---- what a bit spends
-- ten bits for a byte or a bad stop: what a bit completes, and the bits held behind it; and the error count, which is one more at a bad stop alone
record Spends (d : Deframer) (bad : Bool) (x : Deframed) : Type 0 where
  answer : bad_stops_of x.heard ≡ (if bad then 1 else 0)
  few : 10 * (length (bytes_of x.heard) + bad_stops_of x.heard) + held x.state ≤ held d + 1
  errors : x.state.errors ≡ (if bad then one_more d.errors else d.errors)

idle-spends : (d : Deframer) (bit : Bool) → Spends d false (idle_bit d bit)
unfolding idle_bit
idle-spends d true = record { answer = refl; few = omega arith; errors = refl }
idle-spends d false = record { answer = refl; few = omega arith; errors = refl }

data-spends : (d : Deframer) (bit : Bool) → d.in_frame ≡ true → d.bit_count < 8 → Spends d false (data_bit d bit)
unfolding data_bit
data-spends d bit e h = record { answer = refl; few = omega (arith, held-frame d e, held-frame (data_bit d bit).state e); errors = refl }

stop-spends : (d : Deframer) (bit : Bool) → d.in_frame ≡ true → 8 ≤ d.bit_count → Spends d (not bit) (stop_bit d bit)
unfolding stop_bit bad_stop
stop-spends d true e h = record { answer = refl; few = omega (arith, held-frame d e); errors = refl }
stop-spends d false e h = record { answer = refl; few = omega (arith, held-frame d e); errors = refl }

bad-is : (d : Deframer) (bit f t : Bool) → d.in_frame ≡ f → ltb d.bit_count 8 ≡ t → is_bad_stop d bit ≡ f && (not t && not bit)
bad-is d bit f t p q = ap (λ (x : Bool). x && (not (ltb d.bit_count 8) && not bit)) p ∙ ap (λ (x : Bool). f && (not x && not bit)) q

bit-spends : (d : Deframer) (bit : Bool) → Spends d (is_bad_stop d bit) (push_bit d bit)
bit-spends d bit = either d.in_frame refl
  where
    within : d.in_frame ≡ true → (t : Bool) → ltb d.bit_count 8 ≡ t → Spends d (is_bad_stop d bit) (push_bit d bit)
    within e true t = rw (push-data d bit e (ltb-true _ _ t), bad-is d bit true true e t) (data-spends d bit e (ltb-true _ _ t))
    within e false t = rw (push-stop d bit e (ltb-false _ _ t), bad-is d bit true false e t) (stop-spends d bit e (ltb-false _ _ t))

    either : (f : Bool) → d.in_frame ≡ f → Spends d (is_bad_stop d bit) (push_bit d bit)
    either false e = rw (push-idle d bit e, bad-is d bit false _ e refl) (idle-spends d bit)
    either true e = within e (ltb d.bit_count 8) refl

-- a bad stop is answered at a space in stop position and nowhere else, and the error count grows, or holds at its most, there alone
pub told : (d : Deframer) (bit : Bool) → Told d bit (push_bit d bit)
told d bit = record { answer = (bit-spends d bit).answer; errors = (bit-spends d bit).errors }

-- ten bits for a byte or a bad stop
pub bit-few : (d : Deframer) (bit : Bool)
    → 10 * (length (yielded d bit) + bad_stops_of (push_bit d bit).heard) + held (push_bit d bit).state ≤ held d + 1
bit-few d bit = (bit-spends d bit).few

-- at most one byte a bit
pub one_byte : (d : Deframer) (bit : Bool) → length (yielded d bit) ≤ 1
one_byte d bit = omega (arith, (bit-spends d bit).few, held-most d)

-- ten bits make a byte or a bad stop: from any state, ten for each are at most the bits held before and the bits pushed
pub completed-few : (d : Deframer) (bits : List Bool) → 10 * (length (heard d bits) + bad_stop_count d bits) + held (after d bits) ≤ held d + length bits
unfolding heard bad_stop_count after
completed-few d [] = omega arith
completed-few d (bit ∷ bits) =
    rw (length-append (yielded d bit) (heard (push_bit d bit).state bits))
    (omega (arith, (bit-spends d bit).few, completed-few (push_bit d bit).state bits))

-- bytes alone
pub heard-few : (d : Deframer) (bits : List Bool) → 10 * length (heard d bits) + held (after d bits) ≤ held d + length bits
heard-few d bits = omega (arith, completed-few d bits)

-- ---- the error count
counts-one : (bad : Bool) (e f k : ℕ) → k ≡ (if bad then 1 else 0) → f ≡ (if bad then one_more e else e) → e + k ≤ most_errors → f ≡ e + k
counts-one true e f k q p h = omega arith
counts-one false e f k q p h = omega arith

counts-most : (bad : Bool) (e f k : ℕ) → k ≡ (if bad then 1 else 0) → f ≡ (if bad then one_more e else e) → f ≤ e + k
counts-most true e f k q p = omega arith
counts-most false e f k q p = omega arith

-- of one bit: where the count has not held, it has grown by the bad stop, if the bit is one
pub bit-errors : (d : Deframer) (bit : Bool) → d.errors + bad_stops_of (push_bit d bit).heard ≤ most_errors
    → (push_bit d bit).state.errors ≡ d.errors + bad_stops_of (push_bit d bit).heard
bit-errors d bit = counts-one (is_bad_stop d bit) d.errors _ _ (bit-spends d bit).answer (bit-spends d bit).errors

-- it never grows by more
pub bit-errors-most : (d : Deframer) (bit : Bool) → (push_bit d bit).state.errors ≤ d.errors + bad_stops_of (push_bit d bit).heard
bit-errors-most d bit = counts-most (is_bad_stop d bit) d.errors _ _ (bit-spends d bit).answer (bit-spends d bit).errors

-- of a list of bits
pub errors-are : (d : Deframer) (bits : List Bool) → d.errors + bad_stop_count d bits ≤ most_errors → (after d bits).errors ≡ d.errors + bad_stop_count d bits
unfolding bad_stop_count after
errors-are d [] h = omega arith
errors-are d (bit ∷ bits) h =
    let e = bit-errors d bit (omega arith) in
    errors-are (push_bit d bit).state bits (omega arith) ∙ omega arith

pub errors-most : (d : Deframer) (bits : List Bool) → (after d bits).errors ≤ d.errors + bad_stop_count d bits
unfolding bad_stop_count after
errors-most d [] = omega arith
errors-most d (bit ∷ bits) = omega (arith, bit-errors-most d bit, errors-most (push_bit d bit).state bits)

-- from fresh, by fewer bits than ten for each error that fits: it never held, and is the number of bad stops
pub errors-fresh : (bits : List Bool) → length bits < 10 * most_errors
    → ((after fresh_deframer bits).errors ≡ bad_stop_count fresh_deframer bits) × ((after fresh_deframer bits).errors < most_errors)
errors-fresh bits h =
    let f = completed-few fresh_deframer bits in
    let e = errors-are fresh_deframer bits (omega arith) in
    (omega arith, omega arith)

-- ---- bytes alone
-- from idle
pub heard-few-idle : (d : Deframer) → Idle d → (bits : List Bool) → length (heard d bits) ≤ length bits / 10
heard-few-idle d p bits = omega (arith, heard-few d bits, held-idle d p)

-- from any state
pub heard-few-any : (d : Deframer) (bits : List Bool) → length (heard d bits) ≤ length bits
heard-few-any d bits = omega (arith, heard-few d bits, held-most d)
