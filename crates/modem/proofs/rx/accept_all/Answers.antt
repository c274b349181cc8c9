-- Both ways the listener takes the samples; what was heard has room in the queues, and the parts are the definition's. Assumes nothing.
use Prim.Native.Nat.{ℕ}
use mathlib.Core.Path.{◌≡◌, refl, sym, ◌∙◌}
use mathlib.Core.List.{List}
use native.Mathlib.Omega.{arith}
use borrow.Author.Rules.{rules}
use lib.ListN.{take}
use lib.Ieee.{Float}
use Rattle.refusal.specs.Refusals.{given}
use Rattle.happenings.specs.Codes.{Codes, heard_in}
use Rattle.happenings.specs.Happening.{happenings_of, TallyOf}
use Rattle.happenings.specs.declared.happening.Tally.{Tally}
use Rattle.modem.specs.Queue.{Takable, TakesIn}
use Rattle.modem.specs.Write.{refused_by}
use Rattle.modem.specs.Rx.{accepted_by, accepted_write, wrote}
use Rattle.modem.specs.Listener.{heard_by, bad_stops_by}
use Rattle.modem.specs.ListenerRep.{demod_of, FewErrors, Fitting, Takes}
use Rattle.modem.specs.RxRep.{receiver_of}
use Rattle.modem.specs.declared.listener.Listener.{Listener}
use Rattle.modem.specs.declared.queue.Queues.{Queues}
use Rattle.modem.specs.declared.rx.Rx.{Rx}
use Rattle.modem.proofs.Resampled.{plain-takes, plain-heard, plain-few}
use Rattle.modem.proofs.RxCalls.{listener-sound-of, listener-listens}
use Rattle.modem.proofs.Receiving.{passes, bytes_fit}
use Rattle.modem.proofs.rx.accept_all.Goals.{then-is_identity, else-is_identity}
use Rattle.modem.proofs.rx.accept_all.Goals as goal

module _ (rx : Rx) (xs : List Float) (none : refused_by xs rx.listener.accepted rx.out.count ≡ 0) where
  fits : (before : List ℕ) → Codes before → Fitting rx.listener xs before
  fits before places =
      let p = passes xs _ _ none in
      record { few = p.few; end = p.end; places = places }

  has-room : (codes : List ℕ) (n : ℕ) → heard_in n codes ≡ (heard_by (demod_of rx.listener) xs).happenings
      → Takable (record { bytes = rx.out; events = rx.events }) (happenings_of (take n codes))
  has-room codes n heard =
      let p = passes xs _ _ none in
      rw heard (bytes_fit _ _ _ (listener-listens rx.listener (listener-sound-of rx.listener)) p.room p.few)

  whole : (before codes : List ℕ) (l : Listener) (n : ℕ) → Takes rx.listener xs before l n codes
      → (q : Queues) (c : Tally) → TakesIn (record { bytes = rx.out; events = rx.events }) (happenings_of (take n codes)) q
      → TallyOf (happenings_of (take n codes)) c
      → wrote (given c.bad_stops) (receiver_of (record { listener = l; out = q.bytes; events = q.events })) ≡ accepted_write (receiver_of rx) xs
  unfolding receiver_of accepted_write accepted_by bad_stops_by
  whole before codes l n t q c i k = rw (t.demod, i.bytes, i.events, t.accepted, k.bad_stops, t.heard)

pub hear_plain-h-requires : goal.hear_plain-h-requires
hear_plain-h-requires c =
    let f = fits c.args.rx c.args.samples.now c.requires c.filled-codes.result (search rules) in
    (record { places = f.places; few = omega (arith, f.few) }, f.few)

pub accept_resampled-t-requires : goal.accept_resampled-t-requires
accept_resampled-t-requires c = fits c.args.rx c.args.samples.now c.requires _ (search rules)

pub invariant_of-rx-clause-most : goal.invariant_of-rx-clause-most
invariant_of-rx-clause-most c = (passes _ _ _ c.requires).end

pub invariant_of-rx-then-is_identity-clause-most : goal.invariant_of-rx-then-is_identity-clause-most
invariant_of-rx-then-is_identity-clause-most c = (passes _ _ _ c.requires).end

pub invariant_of-rx-then-is_identity-clause-few : goal.invariant_of-rx-then-is_identity-clause-few
unfolding FewErrors
invariant_of-rx-then-is_identity-clause-few c = plain-few c.args.rx.listener c.args.samples.now _ _ c.hear_plain-h.result c.hear_plain-h.ensures

pub take_in-q-requires : goal.take_in-q-requires
take_in-q-requires c =
    elim c.if-is_identity.branch [
      | then-is_identity w ↦
          rw (w.rx-is, w.codes-is, w.count-is)
          (has-room c.args.rx c.args.samples.now c.requires _ _ (plain-heard _ _ _ _ w.hear_plain-h.result (sym c.is_identity.ensures ∙ w.if-is_identity.true) w.hear_plain-h.ensures))
      | else-is_identity w ↦ rw (w.rx-is, w.codes-is, w.count-is) (has-room c.args.rx c.args.samples.now c.requires _ _ w.accept_resampled-t.ensures.heard)
    ]

pub returns : goal.returns
returns c =
    elim c.if-is_identity.branch [
      | then-is_identity w ↦
          rw w.rx-is
          (whole c.args.rx c.args.samples.now c.requires _ _ _ _ (plain-takes _ _ _ _ _ w.hear_plain-h.result refl refl refl (sym c.is_identity.ensures ∙ w.if-is_identity.true) w.hear_plain-h.ensures)
          _ _ (rw (w.rx-is, w.codes-is, w.count-is) at c.take_in-q.ensures) (rw (w.codes-is, w.count-is) at c.tally_of.ensures))
      | else-is_identity w ↦
          rw w.rx-is
          (whole c.args.rx c.args.samples.now c.requires _ _ _ _ w.accept_resampled-t.ensures
          _ _ (rw (w.rx-is, w.codes-is, w.count-is) at c.take_in-q.ensures) (rw (w.codes-is, w.count-is) at c.tally_of.ensures))
    ]
