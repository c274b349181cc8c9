-- What a move, and what is heard, does to the code's decoder is what it does to the plain one. Assumes nothing.
use Prim.Native.Nat.{ℕ, ◌+◌, ◌≤◌, ◌<◌}
use mathlib.Core.Path.{◌≡◌, refl, sym, ap, ◌∙◌}
use mathlib.Core.Bool.{Bool, true, false}
use mathlib.Core.List.{List, [], ◌∷◌, ◌++◌, append-nil, append_assoc}
use lib.ListN.{length, get_or, take, drop, set, length-append}
use lib.Seq.{length-take-le, take-suc-set, drop-cons, drop-length}
use native.Mathlib.Numerals.{add-one}
use native.Mathlib.Omega.{arith}
use borrow.Author.Tests.{lt-ltb, le-ltb}
use Rattle.std.proofs.lemmas.Option.{cond_some}
use Rattle.std.specs.Prelude.{Some, None, if◌then◌else◌}
use Rattle.hexadecimal.specs.Hex.{total}
use Rattle.tide.specs.Judge.{Verdict, judge}
use Rattle.tide.specs.Decoder as plain
use Rattle.tide.specs.JudgeRep.{shown_of, verdict_of}
use Rattle.tide.specs.DecoderRep.{line_of, decoder_of, held, holding, is_end, Stepped, FedOne, Feeds}
use Rattle.happenings.specs.Happening.{bytes_in, happening_of, happenings_of}
use Rattle.happenings.specs.declared.happening.Happening.{Happening}
use Rattle.tide.proofs.DecoderLaws.{judge-answers, bump-total, total-heard, laid_more, laid_none}
use Rattle.tide.specs.declared.judge.Judged.{Judged}
use Rattle.tide.specs.declared.decoder.Line.{Line}
use Rattle.tide.specs.declared.decoder.Decoder.{Decoder}
use Rattle.tide.specs.declared.decoder.Step.{Step}
use Rattle.tide.specs.declared.decoder.Fed.{Fed}
use Rattle.tide.proofs.DecoderRepLaws.{total-held, holding-heard, holding-lines, holding-verdicts, sound-of, unheld, ended_none}

long-line : (l : Line) → length (take l.len l.chars) ≡ l.len
long-line l = length-take-le l.len l.chars (omega (arith, l.short, l.room))

pub longer-some : (l : Line) (c : ℕ) → l.len < 64
    → record { chars = take (l.len + 1) (set l.chars l.len c); more = l.more } ≡ plain.longer (line_of l) c
unfolding plain.longer
longer-some l c h =
    let k : l.len < length l.chars = omega (arith, l.room) in
    rw (long-line l, lt-ltb l.len 64 h, add-one l.len, take-suc-set l.chars l.len c k) refl

pub longer-none : (l : Line) (c : ℕ) → 64 ≤ l.len → record { chars = take l.len l.chars; more = true } ≡ plain.longer (line_of l) c
unfolding plain.longer
longer-none l c h = rw (long-line l, le-ltb l.len 64 h) refl

-- the line is judged and emptied
pub stepped-end : (d : Decoder) (j : Judged) (r : Step)
    → verdict_of j ≡ judge d.station (shown_of d.reading) (take d.line.len d.line.chars) d.line.more
    → decoder_of r.decoder
    ≡ record { station = d.station; line = plain.empty_line; skipping = d.skipping; reading = shown_of j.reading; counts = held (plain.bump d.counts j.answer) }
    → r.answer ≡ Some j.answer
    → Stepped d plain.ends r
unfolding plain.moved plain.ended plain.verdict holding
stepped-end d j r v q z =
    let a : plain.IsAnswer j.answer = rw (ap (λ (x : Verdict). x.answer) v) (judge-answers _ _ _ _) in
    record {
      same = rw (← v) q;
      sound = sound-of r.decoder;
      few =
          omega
          (arith, ap (λ (x : plain.Decoder). total x.counts) q, total-held (plain.bump d.counts j.answer), bump-total d.counts j.answer d.places a);
      answer = z ∙ ap (λ (x : Verdict). Some x.answer) v;
    }

-- any other move
pub stepped-on : (d : Decoder) (m : plain.Move) (r : Step) → is_end m ≡ false
    → decoder_of r.decoder ≡ plain.moved (decoder_of d) m → r.decoder.counts ≡ d.counts → r.answer ≡ None
    → Stepped d m r
unfolding holding
stepped-on d m r i q k z =
    record {
      same = sym (unheld r.decoder) ∙ ap holding q;
      sound = sound-of r.decoder;
      few = omega (arith, ap total k);
      answer = rw i z;
    }

-- the line is dropped
pub stepped-clear : (d : Decoder) (skip : Bool) (r : Step)
    → decoder_of r.decoder ≡ plain.cleared (decoder_of d) skip → r.decoder.counts ≡ d.counts → r.answer ≡ None
    → Stepped d (if skip then plain.loses else plain.resumes) r
unfolding plain.moved
stepped-clear d true r q k z = stepped-on d plain.loses r refl q k z
stepped-clear d false r q k z = stepped-on d plain.resumes r refl q k z

pub one_end : (f : Fed) (h : Happening) (t : Step) (a : ℕ) (out out' : List ℕ) → Stepped f.decoder (plain.move_at (decoder_of f.decoder) h) t
    → t.answer ≡ Some a → out' ≡ set out f.lines a
    → FedOne f h out (record { decoder = t.decoder; lines = f.lines + 1; last = a }) out'
unfolding plain.took
one_end f h t a out out' s e v =
    let k = cond_some _ _ a (sym s.answer ∙ e) in
    record {
      same = s.same;
      sound = s.sound;
      lines = rw k.0 refl;
      last = rw k.0 (sym k.1);
      verdicts = rw (k.0, k.1) v;
    }

pub one_on : (f : Fed) (h : Happening) (t : Step) (out : List ℕ) → Stepped f.decoder (plain.move_at (decoder_of f.decoder) h) t → t.answer ≡ None
    → FedOne f h out (record { decoder = t.decoder; lines = f.lines; last = f.last }) out
unfolding plain.took
one_on f h t out s e =
    let k = ended_none _ _ (sym e ∙ s.answer) in
    record {
      same = s.same;
      sound = s.sound;
      lines = rw k (omega arith);
      last = rw k refl;
      verdicts = rw k refl;
    }

-- part of the way through the codes: the answers of the lines ended so far are laid, the others come
pub record Going (d : Decoder) (cs out : List ℕ) (i : ℕ) (f : Fed) (out' : List ℕ) : Type 0 where
  pub decoder : holding (plain.took_all (decoder_of f.decoder) (happenings_of (drop i cs))) ≡ holding (plain.took_all (decoder_of d) (happenings_of cs))
  pub lines : f.lines + length (plain.lines_in (decoder_of f.decoder) (happenings_of (drop i cs))) ≡ length (plain.lines_in (decoder_of d) (happenings_of cs))
  pub last :
      plain.last_of f.last (plain.verdicts_in (decoder_of f.decoder) (happenings_of (drop i cs)))
      ≡ plain.last_of 0 (plain.verdicts_in (decoder_of d) (happenings_of cs))
  pub given : List ℕ
  pub all : given ++ plain.verdicts_in (decoder_of f.decoder) (happenings_of (drop i cs)) ≡ plain.verdicts_in (decoder_of d) (happenings_of cs)
  pub each : length given ≡ f.lines
  pub laid : out' ≡ plain.laid_in given out
  pub upto : f.lines ≤ i

pub going_start : (d : Decoder) (cs out : List ℕ) → Going d cs out 0 (record { decoder = d; lines = 0; last = 0 }) out
going_start d cs out =
    record { decoder = refl; lines = omega arith; last = refl; given = []; all = refl; each = refl; laid = sym (laid_none out); upto = omega arith }

last-by : (m : plain.Move) (d : plain.Decoder) (l : ℕ) (r : List ℕ)
    → plain.last_of (if is_end m then (plain.verdict d).answer else l) r ≡ plain.last_of l (plain.verdict_at d m ++ r)
unfolding plain.last_of
last-by plain.ends d l r = refl
last-by (plain.grows c) d l r = refl
last-by plain.loses d l r = refl
last-by plain.resumes d l r = refl
last-by plain.stays d l r = refl

length-by : (m : plain.Move) (d : plain.Decoder) (r : List plain.Line) → length (plain.line_at d m ++ r) ≡ (if is_end m then 1 else 0) + length r
length-by plain.ends d r = omega arith
length-by (plain.grows c) d r = omega arith
length-by plain.loses d r = omega arith
length-by plain.resumes d r = omega arith
length-by plain.stays d r = omega arith

upto_by : (t : Bool) → (if t then 1 else 0) ≤ 1
upto_by true = omega arith
upto_by false = omega arith

-- the answers laid after one move more
each-by : (m : plain.Move) (d : plain.Decoder) (vs : List ℕ) (n : ℕ) → length vs ≡ n → length (vs ++ plain.verdict_at d m) ≡ n + (if is_end m then 1 else 0)
each-by plain.ends d vs n e = omega (arith, e, length-append vs ((plain.verdict d).answer ∷ []))
each-by (plain.grows c) d vs n e = rw append-nil (omega (arith, e))
each-by plain.loses d vs n e = rw append-nil (omega (arith, e))
each-by plain.resumes d vs n e = rw append-nil (omega (arith, e))
each-by plain.stays d vs n e = rw append-nil (omega (arith, e))

laid_by : (m : plain.Move) (d : plain.Decoder) (vs out : List ℕ) (n : ℕ) → length vs ≡ n
    → (if is_end m then set (plain.laid_in vs out) n (plain.verdict d).answer else plain.laid_in vs out) ≡ plain.laid_in (vs ++ plain.verdict_at d m) out
laid_by plain.ends d vs out n e = rw (← e) (sym (laid_more vs (plain.verdict d).answer out))
laid_by (plain.grows c) d vs out n e = rw append-nil refl
laid_by plain.loses d vs out n e = rw append-nil refl
laid_by plain.resumes d vs out n e = rw append-nil refl
laid_by plain.stays d vs out n e = rw append-nil refl

pub going_on : (d : Decoder) (cs out : List ℕ) (i : ℕ) (f r : Fed) (o o' : List ℕ) → Going d cs out i f o → i < length cs
    → FedOne f (happening_of (get_or cs i 0)) o r o' → Going d cs out (i + 1) r o'
unfolding plain.took_all plain.lines_in plain.verdicts_in happenings_of
going_on d cs out i f r o o' g h b =
    let x = happening_of (get_or cs i 0) in
    let p = decoder_of f.decoder in
    let m = plain.move_at p x in
    let rest = happenings_of (drop (i + 1) cs) in
    let next = plain.took p x in
    let e : drop i cs ≡ get_or cs i 0 ∷ drop (i + 1) cs = rw (add-one i) (drop-cons cs i 0 h) in
    record {
      decoder = rw b.same (holding-heard rest next ∙ (rw e at g.decoder));
      lines =
          rw (b.same, holding-lines rest next)
          (omega (arith, rw e at g.lines, b.lines, length-by m p (plain.lines_in next rest)));
      last = rw (b.same, holding-verdicts rest next, b.last) (last-by m p f.last _ ∙ (rw e at g.last));
      given = g.given ++ plain.verdict_at p m;
      all = rw (b.same, holding-verdicts rest next, append_assoc) (rw e at g.all);
      each = rw b.lines (each-by m p g.given f.lines g.each);
      laid = rw (b.verdicts, g.laid) (laid_by m p g.given out f.lines g.each);
      upto = omega (arith, g.upto, b.lines, upto_by (is_end m));
    }

-- the counts together grow by no more than the bytes
few-of : (hs : List Happening) (d : Decoder) (f : Fed) → decoder_of f.decoder ≡ holding (plain.took_all (decoder_of d) hs)
    → total f.decoder.counts ≤ total d.counts + length (bytes_in hs)
unfolding holding
few-of hs d f w =
    omega (arith, ap (λ (x : plain.Decoder). total x.counts) w, total-held (plain.took_all (decoder_of d) hs).counts, total-heard hs (decoder_of d) d.places)

pub going_end : (d : Decoder) (cs out : List ℕ) (i : ℕ) (f : Fed) (o : List ℕ) → Going d cs out i f o → i ≤ length cs → length cs ≤ i
    → Feeds d (happenings_of cs) out f o
unfolding plain.took_all plain.lines_in plain.verdicts_in plain.last_of happenings_of
going_end d cs out i f o g p q =
    let e : i ≡ length cs = omega arith in
    let k : drop i cs ≡ [] = rw (e, drop-length cs) refl in
    let w : decoder_of f.decoder ≡ holding (plain.took_all (decoder_of d) (happenings_of cs)) = sym (unheld f.decoder) ∙ (rw k at g.decoder) in
    record {
      same = w;
      sound = sound-of f.decoder;
      few = few-of (happenings_of cs) d f w;
      lines = omega (arith, rw k at g.lines);
      last = rw k at g.last;
      verdicts = g.laid ∙ ap (λ (vs : List ℕ). plain.laid_in vs out) (sym (append-nil g.given) ∙ (rw k at g.all));
    }
