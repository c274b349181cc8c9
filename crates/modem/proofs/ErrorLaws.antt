-- The error count: over every list of calls it stays below 4,294,967,295, so it never holds, and is the number of bad stops. Assumes nothing.
use Prim.Native.Nat.{ℕ, zero, suc, ◌+◌, ◌*◌, ◌<◌, ◌≤◌}
use mathlib.Core.Path.{◌≡◌, refl, sym, ap, ◌∙◌}
use mathlib.Core.Bool.{false}
use mathlib.Core.List.{List, [], ◌∷◌, ◌++◌, append_assoc}
use native.Mathlib.Omega.{arith}
use lib.ListN.{length}
use lib.Ieee.{Float}
use Rattle.refusal.specs.Refusals.{rate_refused}
use Rattle.framing.specs.Frame.{most_errors}
use Rattle.demodulation.specs.Demod.{Demodulator, fresh_demodulator, hearing}
use Rattle.demodulation.proofs.DemodLaws.{hearing-completed, hearing-errors, hearing-errors-most}
use Rattle.demodulation.proofs.FreshLaws.{fresh-deframer}
use Rattle.happenings.specs.declared.happening.Happening.{Happening}
use Rattle.modem.specs.Hear.{resampled}
use Rattle.modem.specs.Listener.{Demod, heard_by, fresh_demod, admitted, heard_over, samples_in, bad_stops_by, bad_stops_over}
use Rattle.modem.specs.ListenerRep.{demod_of, FewErrors, ListenerSound}
use Rattle.modem.specs.Rx.{Receiver, Made, new_of, fresh_receiver, refusal_of, accepted_by, accepted_write, unless_refused, written, read_of, event_of, errors_of, Call, write, read, events, after_call, after_calls, taken_unless, taken_at, taken_in, CountsAll}
use Rattle.modem.specs.RxRep.{receiver_of, RxSound}
use Rattle.modem.proofs.RxLaws.{bads-none, bads-first, over-completed, fresh-listens, fresh-idle}
use Rattle.modem.proofs.RxCalls.{admitted-ok, new_is}
use Rattle.modem.proofs.Receiving.{passes}
use Rattle.bell103.specs.declared.Role.{Role}
use Rattle.demodulation.specs.declared.kind.Kind.{Kind}
use Rattle.demodulation.specs.declared.kind.Kind.TheVariants.{Bare}
use Rattle.framing.specs.declared.frame.Deframer.{Deframer}
use Rattle.modem.specs.declared.listener.Listener.{Listener}
use Rattle.modem.specs.declared.rx.Rx.{Rx}

-- ---- the invariant of what hears
pub errors-new : (e : Deframer) (kind : Kind) (role : Role) → e ≡ (fresh_demodulator kind role).deframer → FewErrors e 0
unfolding FewErrors
errors-new e kind role p = rw (p ∙ fresh-deframer kind role) (omega arith)

pub errors-on : (d : Demodulator) (ss : List Float) (e : Deframer) (n m : ℕ) → FewErrors d.deframer n → e ≡ (hearing d ss).after.deframer
    → length ss ≤ 3 * m → FewErrors e (n + m)
unfolding FewErrors
errors-on d ss e n m f p h = rw p (omega (arith, hearing-completed d ss, hearing-errors-most d ss))

below : (d : Deframer) (n : ℕ) → FewErrors d n → n ≤ 4294967296 → d.errors < most_errors
unfolding FewErrors
below d n f h = omega arith

-- "which no receiver reaches", of any state that `new` and the calls after it gave; so of a board's listener too
pub listener-errors : (l : Listener) → ListenerSound l → (demod_of l).inner.deframer.errors < most_errors
unfolding demod_of
listener-errors l s = below l.demod.core.deframer l.accepted s.errors s.count

pub sound-errors : (r : Rx) → RxSound r → errors_of (receiver_of r) < most_errors
unfolding receiver_of
sound-errors r s = listener-errors r.listener s.listener

-- ---- a write
pub heard-errors : (d : Demod) (xs : List Float) → d.inner.deframer.errors + bad_stops_by d xs ≤ most_errors
    → (heard_by d xs).after.inner.deframer.errors ≡ d.inner.deframer.errors + bad_stops_by d xs
unfolding heard_by bad_stops_by
heard-errors d xs h = hearing-errors d.inner (resampled d.resampler xs).out h

-- ---- a list of accepted writes
over-errors : (d : Demod) (xss : List (List Float)) → d.inner.deframer.errors + bad_stops_over d xss ≤ most_errors
    → (heard_over d xss).after.inner.deframer.errors ≡ d.inner.deframer.errors + bad_stops_over d xss
unfolding heard_over
over-errors d [] h = rw (bads-none d) (omega arith)
over-errors d (xs ∷ xss) h =
    let b = bads-first d xs xss in
    let e = heard-errors d xs (omega (arith, b, h)) in
    over-errors (heard_by d xs).after xss (omega (arith, b, e, h)) ∙ omega (arith, b, e)

fresh-errors : (kind : Kind) (rate : ℕ) (role : Role) → (fresh_demod kind rate role).inner.deframer.errors ≡ 0
unfolding fresh_demod fresh_demodulator
fresh-errors kind rate role = refl

-- from fresh, by as many samples as a receiver accepts: bare, or for a board
pub over-counts : (kind : Kind) (rate : ℕ) (role : Role) → rate_refused rate ≡ false → (xss : List (List Float)) → samples_in xss ≤ 4294967296
    → CountsAll (bad_stops_over (fresh_demod kind rate role) xss) (heard_over (fresh_demod kind rate role) xss).after.inner.deframer.errors
over-counts kind rate role ok xss h =
    let d = fresh_demod kind rate role in
    let z = fresh-errors kind rate role in
    let f = over-completed d xss (fresh-listens kind rate role ok) in
    let i = fresh-idle kind rate role in
    let e = over-errors d xss (omega arith) in
    record { all = omega arith; below = omega arith }

-- ---- a list of calls
pub over-append : (d : Demod) (xss yss : List (List Float)) → (heard_over d (xss ++ yss)).after ≡ (heard_over (heard_over d xss).after yss).after
unfolding heard_over
over-append d [] yss = refl
over-append d (xs ∷ xss) yss = over-append (heard_by d xs).after xss yss

pub over-happenings : (d : Demod) (xss yss : List (List Float))
    → (heard_over d (xss ++ yss)).happenings ≡ (heard_over d xss).happenings ++ (heard_over (heard_over d xss).after yss).happenings
unfolding heard_over
over-happenings d [] yss = refl
over-happenings d (xs ∷ xss) yss =
    ap (λ (l : List Happening). (heard_by d xs).happenings ++ l) (over-happenings (heard_by d xs).after xss yss) ∙ sym (append_assoc (heard_by d xs).happenings _ _)

pub samples-append : (xss yss : List (List Float)) → samples_in (xss ++ yss) ≡ samples_in xss + samples_in yss
samples-append [] yss = omega arith
samples-append (xs ∷ xss) yss = omega (arith, samples-append xss yss)

-- of a receiver, these writes were heard
pub record Heard (r : Receiver) (xss : List (List Float)) (after : Receiver) : Type 0 where
  pub demod : after.demod ≡ (heard_over r.demod xss).after
  pub accepted : after.accepted ≡ r.accepted + samples_in xss
  pub most : r.accepted ≤ 4294967296 → after.accepted ≤ 4294967296

none-heard : (r after : Receiver) → after.demod ≡ r.demod → after.accepted ≡ r.accepted → Heard r [] after
unfolding heard_over
none-heard r after p q = record { demod = p; accepted = omega (arith, q); most = λ h. omega (arith, q) }

write-heard : (r : Receiver) (xs : List Float) → Heard r (taken_unless (refusal_of r xs) xs) (written r xs).state
unfolding written
write-heard r xs = go (refusal_of r xs) refl
  where
    go : (n : ℕ) → refusal_of r xs ≡ n → Heard r (taken_unless n xs) (unless_refused n r (accepted_write r xs)).state
    go zero e =
        unfold accepted_write accepted_by heard_over in
        record { demod = refl; accepted = omega arith; most = λ h. omega (arith, (passes xs r.accepted (length r.waiting) e).end) }
    go (suc n) e = none-heard r r refl refl

call-heard : (r : Receiver) (c : Call) → Heard r (taken_at r c) (after_call r c)
call-heard r (write xs) = write-heard r xs
call-heard r (read buf) = unfold read_of in none-heard r (read_of r buf).state refl refl
call-heard r events = unfold event_of in none-heard r (event_of r).state refl refl

-- the calls leave what the accepted writes among them leave
pub calls-heard : (r : Receiver) (cs : List Call) → Heard r (taken_in r cs) (after_calls r cs)
unfolding after_calls taken_in
calls-heard r [] = none-heard r r refl refl
calls-heard r (c ∷ cs) =
    let x = call-heard r c in
    let y = calls-heard (after_call r c) cs in
    record {
      demod = rw (over-append r.demod (taken_at r c) (taken_in (after_call r c) cs), ← x.demod) y.demod;
      accepted = rw (samples-append (taken_at r c) (taken_in (after_call r c) cs)) (omega (arith, x.accepted, y.accepted));
      most = λ h. y.most (x.most h);
    }

counts-heard : (r : Receiver) (d : Demod) (xss : List (List Float)) (after : Receiver) → r.demod ≡ d → Heard r xss after
    → CountsAll (bad_stops_over d xss) (heard_over d xss).after.inner.deframer.errors → CountsAll (bad_stops_over r.demod xss) (errors_of after)
counts-heard r d xss after p h c = rw (h.demod, p) c

-- from `new` on, also a refused one: writes accepted or refused, reads, events
pub calls_count : (rate : ℕ) (role : Role) (cs : List Call)
    → CountsAll (bad_stops_over (new_of rate role).state.demod (taken_in (new_of rate role).state cs)) (errors_of (after_calls (new_of rate role).state cs))
calls_count rate role cs = rw (ap (λ (m : Made). m.state) (new_is rate role)) (from (admitted rate) (admitted-ok rate))
  where
    from : (at : ℕ) → rate_refused at ≡ false
        → CountsAll (bad_stops_over (fresh_receiver at role).demod (taken_in (fresh_receiver at role) cs)) (errors_of (after_calls (fresh_receiver at role) cs))
    from at ok =
        let x = calls-heard (fresh_receiver at role) cs in
        let n : (fresh_receiver at role).accepted ≡ 0 = unfold fresh_receiver in refl in
        let d : (fresh_receiver at role).demod ≡ fresh_demod Bare at role = unfold fresh_receiver in refl in
        let few = x.most (omega arith) in
        counts-heard _ _ _ _ d x (over-counts Bare at role ok (taken_in (fresh_receiver at role) cs) (omega (arith, x.accepted)))
