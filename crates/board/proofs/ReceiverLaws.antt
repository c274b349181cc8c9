-- The plain board's receiver over a list of writes: what it has heard, and its error count, which never holds. Assumes nothing.
use Prim.Native.Nat.{ℕ, ◌+◌, ◌≤◌}
use mathlib.Core.Path.{◌≡◌, refl, sym, ap, ◌∙◌}
use mathlib.Core.Bool.{Bool, true, false}
use mathlib.Core.List.{List, [], ◌∷◌, append-nil}
use native.Mathlib.Omega.{arith}
use borrow.Author.Tests.{eqb-true}
use lib.ListN.{length}
use lib.Ieee.{Float}
use Rattle.std.specs.Prelude.{if◌then◌else◌}
use Rattle.bell103.specs.declared.Role.{Role}
use Rattle.demodulation.specs.declared.kind.Kind.TheVariants.{ForBoard}
use Rattle.refusal.specs.Refusals.{rate_refused}
use Rattle.happenings.specs.Happening.{bad_stops_in}
use Rattle.happenings.specs.declared.happening.Happening.{Happening}
use Rattle.happenings.proofs.HappeningLaws.{bads-append}
use Rattle.modem.specs.Listener.{Demod, heard_by, fresh_demod, admitted, heard_over, samples_in, samples_refused, bad_stops_over}
use Rattle.modem.specs.Rx.{CountsAll}
use Rattle.modem.proofs.RxCalls.{none-wait, admitted-ok}
use Rattle.modem.proofs.Receiving.{passes}
use Rattle.modem.proofs.ErrorLaws.{over-append, over-happenings, samples-append, over-counts}
use Rattle.board.specs.Plain.{Plain, fresh, new_of, number, accepts, heard_of, heard_in, took, after, Summary, summary, Answer, refused, heard, answer, after_all, taken_in, heard_all, answers_all, bad_stops_given}

-- a list of writes heard: the receiver and the samples accepted before and after it
record Heard (b : Plain) (xss : List (List Float)) (c : Plain) : Type 0 where
  receiver : c.receiver ≡ (heard_over b.receiver xss).after
  accepted : c.accepted ≡ b.accepted + samples_in xss
  most : b.accepted ≤ 4294967296 → c.accepted ≤ 4294967296

within : (b : Plain) (s : List Float) → accepts b s ≡ true → b.accepted + length s ≤ 4294967296
unfolding accepts number samples_refused
within b s e = (passes s b.accepted 0 (none-wait s b.accepted ∙ eqb-true _ _ e)).end

one-heard : (b : Plain) (s : List Float) → Heard b (if accepts b s then s ∷ [] else []) (after b s)
unfolding after heard_over
one-heard b s = go (accepts b s) refl
  where
    go : (t : Bool) → accepts b s ≡ t → Heard b (if t then s ∷ [] else []) (if t then took b s else b)
    go true e = unfold took heard_of in record { receiver = refl; accepted = omega arith; most = λ h. within b s e }
    go false e = record { receiver = refl; accepted = omega arith; most = λ h. h }

all-heard : (b : Plain) (ws : List (List Float)) → Heard b (taken_in b ws) (after_all b ws)
unfolding after_all taken_in
all-heard b [] = unfold heard_over in record { receiver = refl; accepted = omega arith; most = λ h. h }
all-heard b (s ∷ ws) =
    let now : List (List Float) = if accepts b s then s ∷ [] else [] in
    let x = one-heard b s in
    let y = all-heard (after b s) ws in
    record {
      receiver = rw (over-append b.receiver now (taken_in (after b s) ws), ← x.receiver) y.receiver;
      accepted = rw (samples-append now (taken_in (after b s) ws)) (omega (arith, x.accepted, y.accepted));
      most = λ h. y.most (x.most h);
    }

-- the receiver after a list of writes is the one that heard those that were accepted
pub all-receiver : (b : Plain) (ws : List (List Float)) → (after_all b ws).receiver ≡ (heard_over b.receiver (taken_in b ws)).after
all-receiver b ws = (all-heard b ws).receiver

-- what is heard in a list of writes is heard in those that were accepted
one_list : (b : Plain) (s : List Float) → heard_in b s ≡ (heard_over b.receiver (if accepts b s then s ∷ [] else [])).happenings
unfolding heard_in heard_over heard_of
one_list b s = go (accepts b s)
  where
    go : (t : Bool) → (if t then (heard_by b.receiver s).happenings else []) ≡ (heard_over b.receiver (if t then s ∷ [] else [])).happenings
    go true = sym (append-nil (heard_by b.receiver s).happenings)
    go false = refl

pub all-happenings : (b : Plain) (ws : List (List Float)) → heard_all b ws ≡ (heard_over b.receiver (taken_in b ws)).happenings
unfolding heard_all taken_in
all-happenings b [] = unfold heard_over in refl
all-happenings b (s ∷ ws) =
    let now : List (List Float) = if accepts b s then s ∷ [] else [] in
    rw (over-happenings b.receiver now (taken_in (after b s) ws), ← (one-heard b s).receiver, ← all-happenings (after b s) ws, one_list b s) refl

-- the bad stops given, write by write, are those of all that was heard
one-given : (b : Plain) (s : List Float) (said : List Answer) → bad_stops_given (answer b s ∷ said) ≡ bad_stops_in (heard_in b s) + bad_stops_given said
unfolding answer heard_in summary bad_stops_given bad_stops_in
one-given b s said = by (accepts b s) (summary b s) (heard_of b s).happenings (number b s) refl
  where
    by : (t : Bool) (x : Summary) (hs : List Happening) (k : ℕ) → x.bad_stops ≡ bad_stops_in (if t then hs else [])
        → bad_stops_given ((if t then heard x else refused k) ∷ said) ≡ bad_stops_in (if t then hs else []) + bad_stops_given said
    by true x hs k e = omega (arith, e)
    by false x hs k e = omega arith

pub all-given : (b : Plain) (ws : List (List Float)) → bad_stops_given (answers_all b ws) ≡ bad_stops_in (heard_all b ws)
unfolding answers_all heard_all
all-given b [] = unfold bad_stops_given bad_stops_in in refl
all-given b (s ∷ ws) =
    rw (one-given b s (answers_all (after b s) ws), bads-append (heard_in b s) (heard_all (after b s) ws), all-given (after b s) ws) refl

over-given : (b : Plain) (d : Demod) (ws : List (List Float)) → b.receiver ≡ d → bad_stops_given (answers_all b ws) ≡ bad_stops_over d (taken_in b ws)
unfolding bad_stops_over
over-given b d ws e = all-given b ws ∙ ap bad_stops_in (all-happenings b ws) ∙ ap (λ (x : Demod). bad_stops_in (heard_over x (taken_in b ws)).happenings) e

counts-heard : (b : Plain) (d : Demod) (xss : List (List Float)) (c : Plain) (n : ℕ) → b.receiver ≡ d → n ≡ bad_stops_over d xss → Heard b xss c
    → CountsAll (bad_stops_over d xss) (heard_over d xss).after.inner.deframer.errors → CountsAll n c.receiver.inner.deframer.errors
counts-heard b d xss c n p q h counts = rw (q, h.receiver, p) counts

-- "The error count holds at 4,294,967,295, which no receiver reaches": nor does a board's, and it is the bad stops given
pub fresh-errors : (rate station : ℕ) (role : Role) → rate_refused rate ≡ false → (ws : List (List Float))
    → CountsAll (bad_stops_given (answers_all (fresh rate station role) ws)) (after_all (fresh rate station role) ws).receiver.inner.deframer.errors
fresh-errors rate station role ok ws =
    let b = fresh rate station role in
    let x = all-heard b ws in
    let n : b.accepted ≡ 0 = unfold fresh in refl in
    let d : b.receiver ≡ fresh_demod ForBoard rate role = unfold fresh in refl in
    let few = x.most (omega arith) in
    counts-heard _ _ _ _ _ d (over-given b _ ws d) x (over-counts ForBoard rate role ok (taken_in b ws) (omega (arith, x.accepted)))

-- so from `new` on, also a refused one
pub errors-count : (rate station : ℕ) (role : Role) (ws : List (List Float))
    → CountsAll
    (bad_stops_given (answers_all (new_of rate station role).state ws))
    (after_all (new_of rate station role).state ws).receiver.inner.deframer.errors
unfolding new_of
errors-count rate station role ws = fresh-errors (admitted rate) station role (admitted-ok rate) ws
