-- The receiver's state laid into a slice, and the script before it, over lists. Assumes nothing.
use Prim.Native.Nat.{ℕ, suc, min, ◌+◌, ◌*◌, ◌-◌, ◌≤◌}
use mathlib.Core.Path.{◌≡◌, refl, sym, ap, subst, ◌∙◌}
use mathlib.Core.List.{List, ◌++◌, append_assoc}
use native.Mathlib.Nat.{add-zero, add_assoc, sub-zero, zero-add, min-le_right}
use native.Mathlib.Omega.{arith}
use lib.ListN.{length, get_or, take, drop, replicate, length-append, length-drop, length-replicate}
use lib.Seq.{drop-drop, get_or-drop, length-take-le}
use lib.Ieee.{Float, binary64, of_bits, of_int}
use lib.IntN.{pos}
use mir.Val.{bool_byte}
use mathlib.Core.Bool.{Bool, true, false}
use Rattle.resampling.specs.Numbers.{tap_numbers, history_numbers, window_numbers}
use Rattle.resampling.specs.Resample.{State}
use Rattle.modem.specs.Queue.{most_bytes, most_events}
use Rattle.modem.specs.Rx.{Receiver}
use Rattle.modem.specs.RxRep.{receiver_of}
use Rattle.demodulation.specs.declared.correlator.Rings.{Rings}
use Rattle.demodulation.specs.declared.demod.Core.{Core}
use Rattle.demodulation.specs.Demod as plain
use Rattle.demodulation.specs.DemodRep.{demodulator_of}
use Rattle.demodulation.specs.declared.demod.Demodulator.{Demodulator}
use Rattle.modem.specs.declared.rx.Rx.{Rx}
use Rattle.numeric.proofs.Parts.{part-next, part_left, put_front, put-behind}
use Rattle.calls.specs.Receive.{call_in, called}
use Rattle.calls.specs.ReceiveSteps.{Calls}
use Rattle.snapshot.specs.ReceiverState.{truth, place_numbers, tone_numbers, mark_numbers, own_numbers, last_numbers, resampler_numbers, ring_numbers, state_numbers, state_length, receiver_after}
use Rattle.snapshot.specs.ResamplerState.{shown_after, traced}
use Rattle.snapshot.specs.StateSteps.{Put, PutMany, Moves}
use Rattle.calls.specs.Resample.{Scripted}
use Rattle.calls.specs.declared.answers.Heard.{Heard}
use Rattle.calls.specs.declared.receive.Call.{Call}
use Rattle.snapshot.specs.declared.state.Spot.{Spot}

-- yes or no as a number, as the conversion gives it
pub truth-is : (b : Bool) → of_int binary64 (pos (bool_byte b)) ≡ truth b
unfolding of_bits of_int
truth-is true = refl
truth-is false = refl

-- ---- copies
pub put-long : (at : ℕ) (xs l l' : List Float) → Put at xs l l' → length l' ≡ length l
put-long at xs l l' p =
    let fits : at ≤ length l = omega (arith, p.room) in
    rw (p.is, length-append (take at l), length-take-le at l fits, length-append xs, length-drop) (omega (arith, p.room))

-- one list behind another
pub put-put : (at b : ℕ) (xs ys l l' l'' : List Float) → b ≡ at + length xs → Put at xs l l' → Put b ys l' l'' → Put at (xs ++ ys) l l''
put-put at b xs ys l l' l'' is p q =
    let fits : at ≤ length l = omega (arith, p.room) in
    let behind : List Float = drop (at + length xs) l in
    let front : take b l' ≡ take at l ++ xs = rw (is, p.is) (put_front l xs behind at fits) in
    let rest : drop (b + length ys) l' ≡ drop (at + length (xs ++ ys)) l =
    sym (drop-drop (length ys) b l') ∙ ap (drop (length ys)) (rw (is, p.is) (put-behind l xs behind at fits)) ∙ drop-drop (length ys) (at + length xs) l ∙ rw (length-append xs ys, add_assoc at) in
    let long = put-long at xs l l' p in
    record {
      room = rw (length-append xs ys) (omega (arith, q.room, long));
      is = q.is ∙ rw (front, rest, append_assoc (take at l), append_assoc xs);
    }

-- a list at the front
pub front-put : (n : ℕ) (xs l l' : List Float) → PutMany 0 n xs l l' → l' ≡ xs ++ drop n l
front-put n xs l l' p = p.put.is ∙ rw (p.many, zero-add)

-- ---- the resampler
pub resampler-put : (s : State) (taps history window l1 l2 l3 l4 : List Float) → taps ≡ tap_numbers s → history ≡ history_numbers s → window ≡ window_numbers s
    → length taps ≡ 373 → length history ≡ 373 → Put 0 taps l1 l2 → Put 373 history l2 l3 → Put 746 window l3 l4 → PutMany 0 753 (resampler_numbers s) l1 l4
resampler-put s taps history window l1 l2 l3 l4 t-is h-is w-is t-long h-long p q r =
    let w-long : length window ≡ 7 = rw w-is in
    rw (← t-is, ← h-is, ← w-is)
    (record {
      put = put-put 0 373 taps (history ++ window) l1 l2 l4 (omega (arith, t-long)) p (put-put 373 746 history window l2 l3 l4 (omega (arith, h-long)) q r);
      many = rw (length-append taps, length-append history) (omega (arith, t-long, h-long, w-long));
    })

-- a script of its calls, and what is shown behind it
pub traced-by : (x y : Scripted) (l l' : List Float) → x ≡ y → l' ≡ shown_after x.answer x.state l → traced x.run l' ≡ traced y.run (shown_after y.answer y.state l)
traced-by x y l l' e s = rw s (ap (λ (z : Scripted). traced z.run (shown_after z.answer z.state l)) e)

-- ---- the rings
pub rings-put : (d : Demodulator) (k : Core) (g : Rings) (place l1 l2 l3 l4 l5 l6 : List Float) → k ≡ d.core → g ≡ d.rings → place ≡ place_numbers k.corr
    → Put 753 place l1 l2 → PutMany 755 27 g.mark_i l2 l3 → PutMany 782 27 g.mark_q l3 l4 → PutMany 809 27 g.space_i l4 l5
    → PutMany 836 27 g.space_q l5 l6 → PutMany 753 110 (ring_numbers (demodulator_of d)) l1 l6
rings-put d k g place l1 l2 l3 l4 l5 l6 k-is g-is is p a b c e =
    let n : length place ≡ 2 = rw is in
    let ce = put-put 809 836 g.space_i g.space_q l4 l5 l6 (omega (arith, c.many)) c.put e.put in
    let bce = put-put 782 809 g.mark_q (g.space_i ++ g.space_q) l3 l4 l6 (omega (arith, b.many)) b.put ce in
    let abce = put-put 755 782 g.mark_i (g.mark_q ++ (g.space_i ++ g.space_q)) l2 l3 l6 (omega (arith, a.many)) a.put bce in
    rw (← g-is, ← k-is)
    (subst (λ (x : List Float). PutMany 753 110 (x ++ (g.mark_i ++ (g.mark_q ++ (g.space_i ++ g.space_q)))) l1 l6) is
    (record {
      put = put-put 753 755 place (g.mark_i ++ (g.mark_q ++ (g.space_i ++ g.space_q))) l1 l2 l6 (omega (arith, n)) p abce;
      many = rw (length-append place, length-append g.mark_i, length-append g.mark_q, length-append g.space_i) (omega (arith, n, a.many, b.many, c.many, e.many));
    }))

-- ---- the whole
abbrev tone_of : plain.Demodulator → List Float
tone_of d = tone_numbers d.corr d.timing d.deframer d.carrier

laid_out : (r : Receiver) (l1 l2 l3 l4 l5 l6 l7 : List Float)
    → PutMany 0 753 (resampler_numbers r.demod.resampler) l1 l2 → PutMany 753 110 (ring_numbers r.demod.inner) l2 l3
    → Put 863 (tone_of r.demod.inner) l3 l4 → Put 880 (mark_numbers r.demod.inner.dominance) l4 l5
    → Put 895 (own_numbers r.demod.inner.dominance) l5 l6 → Put 901 (last_numbers r) l6 l7 → l7 ≡ state_numbers r ++ drop state_length l1
unfolding state_numbers
laid_out r l1 l2 l3 l4 l5 l6 l7 a b t m o l =
    let A = resampler_numbers r.demod.resampler in
    let B = ring_numbers r.demod.inner in
    let T = tone_of r.demod.inner in
    let M = mark_numbers r.demod.inner.dominance in
    let O = own_numbers r.demod.inner.dominance in
    let L = last_numbers r in
    let ol = put-put 895 901 O L l5 l6 l7 refl o l in
    let mol = put-put 880 895 M (O ++ L) l4 l5 l7 refl m ol in
    let tmol = put-put 863 880 T (M ++ (O ++ L)) l3 l4 l7 refl t mol in
    let btmol = put-put 753 863 B (T ++ (M ++ (O ++ L))) l2 l3 l7 (omega (arith, b.many)) b.put tmol in
    let all = put-put 0 753 A (B ++ (T ++ (M ++ (O ++ L)))) l1 l2 l7 (omega (arith, a.many)) a.put btmol in
    let many : length (A ++ (B ++ (T ++ (M ++ (O ++ L))))) ≡ 909 = rw (length-append A, length-append B) (omega (arith, a.many, b.many)) in
    all.is ∙ rw (many, zero-add)

pub state-put : (r : Receiver) (d : Demodulator) (k : Core) (tone mark own last l1 l2 l3 l4 l5 l6 l7 : List Float) → demodulator_of d ≡ r.demod.inner → k ≡ d.core
    → tone ≡ tone_numbers k.corr k.timing k.deframer k.carrier → mark ≡ mark_numbers k.dominance → own ≡ own_numbers k.dominance → last ≡ last_numbers r
    → PutMany 0 753 (resampler_numbers r.demod.resampler) l1 l2 → PutMany 753 110 (ring_numbers (demodulator_of d)) l2 l3
    → Put 863 tone l3 l4 → Put 880 mark l4 l5 → Put 895 own l5 l6 → Put 901 last l6 l7 → l7 ≡ state_numbers r ++ drop state_length l1
state-put r d k tone mark own last l1 l2 l3 l4 l5 l6 l7 d-is k-is t-is m-is o_is l-is a b t m o l =
    laid_out r l1 l2 l3 l4 l5 l6 l7 a (subst (λ (x : plain.Demodulator). PutMany 753 110 (ring_numbers x) l2 l3) d-is b)
    (subst (λ (x : List Float). Put 863 x l3 l4) (t-is ∙ ap (λ (x : Core). tone_numbers x.corr x.timing x.deframer x.carrier) k-is ∙ ap tone_of d-is) t)
    (subst (λ (x : List Float). Put 880 x l4 l5) (m-is ∙ ap (λ (x : Core). mark_numbers x.dominance) k-is ∙ ap (λ (x : plain.Demodulator). mark_numbers x.dominance) d-is) m)
    (subst (λ (x : List Float). Put 895 x l5 l6) (o_is ∙ ap (λ (x : Core). own_numbers x.dominance) k-is ∙ ap (λ (x : plain.Demodulator). own_numbers x.dominance) d-is) o)
    (subst (λ (x : List Float). Put 901 x l6 l7) l-is l)

-- ---- the script
-- the front of an array of m elements, as long as is asked for
pub prefix-length : (m n e : ℕ) {a : List ℕ} → a ≡ replicate m 0 → e ≡ 0 + min n (m - 0) → length (take e a) ≡ min n m
prefix-length m n e {a} is end =
    let fit : e ≡ min n m = end ∙ rw (zero-add, sub-zero) in
    let long : length a ≡ m = ap length is ∙ length-replicate m 0 in
    length-take-le e a (omega (arith, fit, long, min-le_right n m)) ∙ fit

-- one call, with the parts that it lends
pub step-moves : (p : Spot) (k : Call) (xs : List Float) (e : ℕ) (s : Rx) (h : Heard) (bytes events bytes' events' : List ℕ)
    → e ≡ p.read + min k.samples (length xs - p.read) → e ≤ length xs → length bytes ≡ min k.bytes most_bytes → length events ≡ min k.events most_events
    → Calls (called (receiver_of p.state) (take (e - p.read) (drop p.read xs)) (length bytes) (length events)) bytes events h s bytes' events'
    → Moves p (record { state = s; read = e }) k xs
step-moves p k xs e s h bytes events bytes' events' is fits bytes-are events-are calls =
    record {
      state = calls.state ∙ rw (part-next xs p.read k.samples e is, bytes-are, events-are);
      left = part_left xs p.read k.samples e is;
      stands = record { read = fits };
    }

pub after-start : (k : ℕ) (r : Receiver) (xs : List Float) (script : List ℕ) → receiver_after (k - 0) r xs script ≡ receiver_after k r xs script
after-start k r xs script = rw (sub-zero k)

pub after-step : (script : List ℕ) (i : ℕ) (p q : Spot) (xs : List Float) → Moves p q (call_in script i) xs → (k m : ℕ) → m ≡ suc k
    → receiver_after k (receiver_of q.state) (drop q.read xs) (drop (3 * (i + 1)) script) ≡ receiver_after m (receiver_of p.state) (drop p.read xs) (drop (3 * i) script)
unfolding receiver_after
after-step script i p q xs moves k m is =
    let three : 3 * (i + 1) ≡ 3 * i + 3 = omega arith in
    let first : get_or (drop (3 * i) script) 0 0 ≡ get_or script (3 * i) 0 = get_or-drop (3 * i) script 0 0 ∙ rw (add-zero (3 * i)) in
    rw (is, three, ← drop-drop 3 (3 * i) script, moves.state, moves.left, first, get_or-drop (3 * i) script 1 0, get_or-drop (3 * i) script 2 0)

pub after-end : (i j : ℕ) → i ≡ j → (r : Receiver) (xs : List Float) (script : List ℕ) → receiver_after (j - i) r xs script ≡ r
unfolding receiver_after
after-end i j is r xs script =
    let z : j - i ≡ 0 = omega arith in
    rw z
