-- What `new` and `write` of the code do is what they do to the plain board. Assumes nothing.
use Rattle.board.specs.declared.board.Summary.{Summary}
use Prim.Native.Nat.{ℕ, ◌+◌, ◌*◌, ◌≤◌}
use mathlib.Core.Path.{◌≡◌, refl, sym, ap, ◌∙◌}
use mathlib.Core.Bool.{Bool, true, false}
use mathlib.Core.List.{List}
use native.Mathlib.Omega.{arith}
use lib.Dec.{eqb}
use lib.ListN.{length}
use lib.Ieee.{Float}
use Rattle.std.specs.Prelude.{if◌then◌else◌, Result, Ok, Err}
use Rattle.refusal.specs.Refusals.{number_of, reply_in, reply_of, first, rate_refused}
use Rattle.refusal.proofs.RefusalLaws.{first-yes, first-no, number-some, refused-by}
use Rattle.framing.specs.Framing as framing
use Rattle.happenings.specs.Happening.{bytes_in, bad_stops_in, TallyOf}
use Rattle.happenings.specs.Codes.{heard_in}
use Rattle.happenings.specs.declared.happening.Happening.{Happening}
use Rattle.happenings.specs.declared.happening.Tally.{Tally}
use Rattle.modem.specs.Listener as rx
use Rattle.modem.specs.ListenerRep.{demod_of, Opens, Takes, Hears}
use Rattle.modem.proofs.RxLaws.{heard-completed, fresh-idle}
use Rattle.modem.proofs.RxCalls.{listener-listens, listener-sound-of}
use Rattle.bell103.specs.declared.Role.{Role}
use Rattle.demodulation.specs.declared.kind.Kind.TheVariants as kind
use Rattle.refusal.specs.declared.Refusal.{Refusal}
use Rattle.refusal.specs.declared.Refusal.TheVariants.{Station}
use Rattle.modem.specs.declared.listener.Listener.{Listener}
use Rattle.refusal.specs.declared.Answered.{Answered}
use Rattle.modem.specs.declared.listener.Listened.{Listened}
use Rattle.hexadecimal.specs.Hex.{total}
use Rattle.tide.specs.Decoder as tide
use Rattle.tide.proofs.DecoderLaws.{holds-heard, laid_none}
use Rattle.tide.specs.DecoderRep as decoders
use Rattle.tide.specs.declared.decoder.Decoder.{Decoder}
use Rattle.tide.specs.declared.decoder.Fed.{Fed}
use Rattle.board.specs.Station.{checked}
use Rattle.board.specs.Plain as plain
use Rattle.board.proofs.PlainLaws.{after-accepted, answer-accepted, heard-accepted, after-refused, answer-refused, verdicts-refused}
use Rattle.board.specs.BoardRep.{plain_of, answer_of, Makes, WritesInto, Judgeable, JudgesAll}
use Rattle.board.specs.declared.board.Board.{Board}

plain-same : (d d' : rx.Demod) (n n' : ℕ) (k k' : tide.Decoder) → d ≡ d' → n ≡ n' → k ≡ k' → plain.plain d n k ≡ plain.plain d' n' k'
plain-same d d' n n' k k' p q r = rw (p, q, r) refl

-- ---- `new`
checked-is : (t : Bool) (a : Result Unit Refusal) (station : ℕ) → reply_in a ≡ reply_of (first t 1 0)
    → reply_in (checked a station) ≡ reply_of (first t 1 (first (eqb station 0) 2 0))
unfolding checked
checked-is true (Err r) station e = e ∙ ap reply_of (first-yes 1 0 ∙ sym (first-yes 1 (first (eqb station 0) 2 0)))
checked-is true (Ok tt) station e =
    let a = e ∙ ap reply_of (first-yes 1 0) in
    let z : ◌≡◌ {A = ℕ} 0 1 = cc in
    absurd (omega arith)
checked-is false (Err r) station e =
    let a = e ∙ ap reply_of (first-no 1 0) in
    let z : ◌≡◌ {A = ℕ} 0 1 = cc in
    absurd (omega arith)
checked-is false (Ok tt) station e = by (eqb station 0) ∙ ap reply_of (sym (first-no 1 (first (eqb station 0) 2 0)))
  where
    by : (t : Bool) → reply_in (if t then Err Station else (Ok tt)) ≡ reply_of (first t 2 0)
    by true = ap reply_of (sym (first-yes 2 0))
    by false = ap reply_of (sym (first-no 2 0))

module _ (rate station : ℕ) (role : Role) (m : Answered Listener Unit) (d : Decoder) (opens : Opens kind.ForBoard rate role m) (made : decoders.Made station d) where
  no-counts : total d.counts ≡ 0
  unfolding tide.fresh_decoder total
  no-counts = ap (λ (k : tide.Decoder). total k.counts) made.same

  pub few-made : 10 * total d.counts + framing.held (demod_of m.state).inner.deframer ≤ 3 * m.state.accepted
  few-made =
      let h = ap (λ (x : rx.Demod). framing.held x.inner.deframer) opens.fresh.demod ∙ fresh-idle kind.ForBoard (rx.admitted rate) role in
      omega (arith, no-counts, h)

  pub makes : (b : Board) → b.listener ≡ m.state → b.decoder ≡ d → Makes rate station role (record { answer = checked m.answer station; state = b })
  unfolding plain_of plain.new_of plain.new_number plain.fresh
  makes b l k =
      record {
        answer = checked-is (rate_refused rate) m.answer station opens.answer;
        state =
            plain-same _ _ _ _ _ _ (ap demod_of l ∙ opens.fresh.demod) (ap (λ (x : Listener). x.accepted) l ∙ opens.fresh.accepted)
            (ap decoders.decoder_of k ∙ made.same);
      }

-- ---- what was heard, judged
pub few-judged : (l : Listener) (d : Decoder) (hs : List Happening) (out : List ℕ) (f : Fed) (out' : List ℕ)
    → Judgeable l d hs → decoders.Feeds d hs out f out'
    → 10 * total f.decoder.counts + framing.held (demod_of l).inner.deframer ≤ 3 * l.accepted
few-judged l d hs out f out' j fed = omega (arith, j.few, fed.few)

pub judges-all : (l : Listener) (d : Decoder) (hs : List Happening) (out : List ℕ) (f : Fed) (out' : List ℕ) (t : Tally) (b : Board)
    → b.listener ≡ l → b.decoder ≡ f.decoder → Judgeable l d hs → decoders.Feeds d hs out f out' → TallyOf hs t
    → JudgesAll l d hs out
    (record { answer = Ok (record { bytes = t.bytes; lines = f.lines; last = f.last; bad_stops = t.bad_stops }); state = b })
    out'
judges-all l d hs out f out' t b e k j fed p =
    let room : total d.counts + length (bytes_in hs) ≤ decoders.most_count = omega (arith, j.few, l.most) in
    record {
      answer = rw (p.bytes, p.bad_stops, fed.lines, fed.last) refl;
      decoder = ap decoders.decoder_of k ∙ fed.same ∙ holds-heard hs (decoders.decoder_of d) d.places room;
      listener = e;
      verdicts = fed.verdicts;
    }

-- ---- `write`
module _ (b : Board) (s : List Float) (before codes : List ℕ) (w : Listened) (hears : Hears b.listener s before w codes) where
  same_number : plain.number (plain_of b) s ≡ rx.samples_refused s b.listener.accepted
  unfolding plain.number plain_of rx.samples_refused
  same_number = refl

  pub writes-refused : (why : Refusal) → reply_in (Err why) ≡ reply_of (rx.samples_refused s b.listener.accepted) → (out : List ℕ)
      → WritesInto b s out (record { answer = Err why; state = b }) out
  writes-refused why e out =
      let n : plain.number (plain_of b) s ≡ number_of why = same_number ∙ refused-by why _ e in
      let z : plain.number (plain_of b) s ≡ 0 → ⊥ = λ z. number-some why (sym n ∙ z) in
      record {
        writes =
            record {
              answer = sym (answer-refused (plain_of b) s z ∙ ap plain.refused n);
              state = sym (after-refused (plain_of b) s z);
            };
        verdicts = sym (rw (verdicts-refused (plain_of b) s z) (laid_none out));
      }

  module _ (z : rx.samples_refused s b.listener.accepted ≡ 0) where
    none-refused : plain.number (plain_of b) s ≡ 0
    none-refused = same_number ∙ z

    takes : Takes b.listener s before w.state w.count codes
    takes = hears.taken z

    pub count-few : w.count ≤ length codes
    count-few = omega (arith, takes.few, takes.places)

    heard-is : heard_in w.count codes ≡ plain.heard_in (plain_of b) s
    unfolding plain.heard_of plain_of
    heard-is = takes.heard ∙ sym (heard-accepted (plain_of b) s none-refused)

    few_bytes : 10 * length (bytes_in (heard_in w.count codes)) + framing.held (demod_of w.state).inner.deframer
        ≤ framing.held (demod_of b.listener).inner.deframer + 3 * length s
    few_bytes = rw (takes.heard, takes.demod) (omega (arith, heard-completed (demod_of b.listener) s (listener-listens b.listener (listener-sound-of b.listener))))

    pub judgeable : Judgeable w.state b.decoder (heard_in w.count codes)
    judgeable = record { few = omega (arith, few_bytes, b.few, takes.accepted) }

    module _ (out : List ℕ) (r : Answered Board Summary) (out' : List ℕ) (t : JudgesAll w.state b.decoder (heard_in w.count codes) out r out') where
      -- what the decoder makes of what was heard
      abbrev heard-of : List Happening → plain.Answer
      heard-of hs =
          plain.heard (
          record {
            bytes = length (bytes_in hs);
            lines = length (tide.lines_in (decoders.decoder_of b.decoder) hs);
            last = tide.last_of 0 (tide.verdicts_in (decoders.decoder_of b.decoder) hs);
            bad_stops = bad_stops_in hs;
          })

      answers : answer_of r.answer ≡ plain.answer (plain_of b) s
      unfolding plain_of plain.summary plain.lines plain.verdicts
      answers = t.answer ∙ ap heard-of heard-is ∙ sym (answer-accepted (plain_of b) s none-refused)

      took : plain_of r.state ≡ plain.took (plain_of b) s
      unfolding plain_of plain.took plain.heard_of
      took =
          plain-same _ _ _ _ _ _ (ap demod_of t.listener ∙ takes.demod) (ap (λ (l : Listener). l.accepted) t.listener ∙ takes.accepted)
          (t.decoder ∙ ap (tide.took_all (decoders.decoder_of b.decoder)) takes.heard)

      laid : out' ≡ tide.laid_in (plain.verdicts (plain_of b) s) out
      unfolding plain_of plain.verdicts
      laid = t.verdicts ∙ ap (λ hs. tide.laid_in (tide.verdicts_in (decoders.decoder_of b.decoder) hs) out) heard-is

      pub writes-accepted : WritesInto b s out r out'
      writes-accepted =
          record {
            writes =
                record {
                  answer = answers;
                  state = took ∙ sym (after-accepted (plain_of b) s none-refused);
                };
            verdicts = laid;
          }
