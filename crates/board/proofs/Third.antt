-- The third term holds of the plain board, for every list of writes. Assumes nothing.
use Prim.Native.Nat.{ℕ, ◌+◌, ◌≤◌, ◌<◌}
use mathlib.Core.Bool.{false}
use mathlib.Core.Path.{◌≡◌, refl, sym, ap, subst, ◌∙◌}
use mathlib.Core.List.{List, [], ◌∷◌, ◌++◌}
use native.Mathlib.Omega.{arith}
use Rattle.happenings.specs.declared.happening.Happening.{Happening}
use Rattle.happenings.specs.declared.happening.Happening.TheVariants.{Lost}
use mathlib.Core.Logic.{◌↔◌}
use lib.ListN.{length, get_or, drop}
use lib.Ieee.{Float}
use Rattle.bell103.specs.declared.Role.{Role}
use Rattle.hexadecimal.specs.Hex.{hex_line, unhex, total}
use Rattle.tide.specs.Frame.{reader_of, Intact, Writer, Rules, line_by}
use Rattle.tide.specs.Judge.{Reading, Shown, none, shows, Verdict, judge, Passes, Readable, Past17}
use Rattle.tide.specs.Decoder.{Line, Decoder, fresh_decoder, place, took_all, lines_in, verdicts_in, answers_on, times, Below, AtMost, Best, SinceFresh}
use Rattle.tide.proofs.JudgeLaws as judging
use Rattle.tide.proofs.DecoderLaws as decoders
use Rattle.tide.proofs.LinesLaws as heard
use Rattle.tide.specs.Lines.{lines_of, Unbroken, behind0_a}
use Rattle.board.specs.Plain.{Plain, decoder, fresh, after_all, lines_all, verdicts_all, answers_all, heard_all, bad_stops_given}
use Rattle.refusal.specs.Refusals.{rate_refused}
use Rattle.resampling.specs.Resample as resample
use Rattle.modem.specs.Listener.{fresh_demod}
use Rattle.modem.specs.Rx.{CountsAll}
use Rattle.board.proofs.ReceiverLaws.{all-given, fresh-errors}
use Rattle.board.proofs.PlainLaws.{all-decoder, all_lines, all-verdicts, all-ended}
use Rattle.board.specs.Symbols.{KeepsPace}
use Rattle.board.proofs.SymbolLaws.{board-paced}
use Rattle.board.specs.Term.{stands, given, line_of, on_fields, JudgedAs, Term3}

-- the first of some numbers and the others
total-split : (cs : List ℕ) → total cs ≡ get_or cs 0 0 + total (drop 1 cs)
unfolding total
total-split [] = refl
total-split (c ∷ cs) = refl

-- the best is at least every one
most-split : (w : ℕ) (before behind : List Reading) (g : Reading) → Below w before → g.water ≤ w → AtMost w behind → AtMost w (before ++ g ∷ behind)
most-split w [] behind g p h q = (h, q)
most-split w (b ∷ before) behind g p h q = (let a = p.0 in omega arith, most-split w before behind g p.1 h q)

best-most : (gs : List Reading) (r : Shown) (x : Reading) → r ≡ shows x → Best gs r → AtMost x.water gs
best-most gs none x e b = let z : ◌≡◌ {A = ℕ} 0 1 = cc in absurd (omega arith)
best-most gs (shows y) x e b =
    let z : y ≡ x = cc in
    rw (← z, b.2) (most-split y.water b.0 b.1 y b.3 (omega arith) b.4)

-- one line more
given-more : (mine : ℕ) (ls : List Line) (l : Line) → given mine (ls ++ l ∷ []) ≡ given mine ls ++ (judge mine (stands mine ls) l.chars l.more).answer ∷ []
given-more mine ls l = decoders.answers-append mine none ls (l ∷ []) ∙ unfold answers_on in refl

-- a line that a writer wrote, from its characters
line-is : (l : Line) (chars : List ℕ) → chars ≡ l.chars → l.more ≡ false → l ≡ line_of chars
line-is l chars e m = rw (e, ← m) refl

module _ (b : Plain) (is : decoder b ≡ fresh_decoder b.station) (ws : List (List Float)) (pace : KeepsPace b ws)
    (errors : rate_refused b.receiver.resampler.src ≡ false → CountsAll (bad_stops_given (answers_all b ws)) (after_all b ws).receiver.inner.deframer.errors) where
  abbrev station : ℕ
  station = b.station

  abbrev all : List Happening
  all = heard_all b ws

  claims : SinceFresh station all
  claims = decoders.since-fresh station all

  decoder-is : decoder (after_all b ws) ≡ took_all (fresh_decoder station) all
  decoder-is = all-decoder b ws ∙ ap (λ (d : Decoder). took_all d all) is

  reading-is : (after_all b ws).reading ≡ (took_all (fresh_decoder station) all).reading
  reading-is = ap (λ (d : Decoder). d.reading) decoder-is

  counts-are : (after_all b ws).counts ≡ (took_all (fresh_decoder station) all).counts
  counts-are = ap (λ (d : Decoder). d.counts) decoder-is

  lines_are : lines_all b ws ≡ lines_in (fresh_decoder station) all
  lines_are = all_lines b ws ∙ ap (λ (d : Decoder). lines_in d all) is

  verdicts-are : verdicts_all b ws ≡ verdicts_in (fresh_decoder station) all
  verdicts-are = all-verdicts b ws ∙ ap (λ (d : Decoder). verdicts_in d all) is

  each_at : (ls rs : List Line) (l : Line) → lines_all b ws ≡ ls ++ l ∷ rs
      → JudgedAs station (verdicts_all b ws) ls l (judge station (stands station ls) l.chars l.more)
  each_at ls rs l e =
      let k = claims.each ls rs l (sym lines_are ∙ e) in
      record { answer = rw verdicts-are k.0; reading = k.1 }

  as_said : (ls : List Line) (l : Line) (v : Verdict) → judge station (stands station ls) l.chars l.more ≡ v
      → JudgedAs station (verdicts_all b ws) ls l (judge station (stands station ls) l.chars l.more) → JudgedAs station (verdicts_all b ws) ls l v
  as_said ls l v e k = rw (← e) k

  written_at : (ls rs : List Line) (l : Line) → lines_all b ws ≡ ls ++ l ∷ rs → Passes l.chars l.more
      → (w : Writer) × Rules w × (w.reader ≡ reader_of (unhex l.chars)) × (l ≡ line_of (line_by w))
  written_at ls rs l e p =
      let k = claims.writers ls rs l (sym lines_are ∙ e) p in
      (k.0, k.1, k.2, line-is l (line_by k.0) k.3 k.4)

  readable-at : (ls rs : List Line) (l : Line) → lines_all b ws ≡ ls ++ l ∷ rs → Readable l.chars l.more
      → (w : Writer) × Rules w × (w.reader ≡ 1) × (l ≡ line_of (line_by w))
  readable-at ls rs l e r =
      let k = judging.readable-writer l.chars l.more r in
      (k.0, k.1, k.2, line-is l (line_by k.0) k.3 k.4)

  covered-at : (ls rs : List Line) (l : Line) → lines_all b ws ≡ ls ++ l ∷ rs
      → Past17 (get_or (verdicts_all b ws) (length ls) 0) ↔ Readable l.chars l.more
  covered-at ls rs l e = rw (each_at ls rs l e).answer (judging.readable-answer station (stands station ls) l.chars l.more)

  lines-heard : lines_all b ws ≡ lines_of all
  unfolding fresh_decoder
  lines-heard = lines_are ∙ heard.lines-of-heard all (fresh_decoder station) refl refl

  unbroken-at : (ls rs : List Line) (l : Line) → lines_all b ws ≡ ls ++ l ∷ rs → Unbroken all ls l
  unbroken-at ls rs l e = heard.unbroken all ls rs l (sym lines-heard ∙ e)

  voided-at : (before behind : List Happening) → all ≡ before ++ Lost ∷ behind → lines_all b ws ≡ lines_of before ++ lines_of (behind0_a behind)
  voided-at before behind e = lines-heard ∙ ap lines_of e ∙ heard.voided before behind

  counted-17 : (ls : List Line) (f : List ℕ) → Intact f → 1 < reader_of f
      → times 17 (given station (ls ++ line_of (hex_line f) ∷ [])) ≡ times 17 (given station ls) + 1
  counted-17 ls f i h =
      let j = judging.judge-newer station (stands station ls) f i h in
      rw (given-more station ls (line_of (hex_line f)), j, decoders.times-append 17 (given station ls) (17 ∷ [])) (unfold times in refl)

  term : Term3 b ws (after_all b ws) (answers_all b ws)
  term =
      record {
        board = refl;
        answers = refl;
        paced = pace;
        lines = lines-heard;
        unbroken = unbroken-at;
        voided = voided-at;
        reading = rw (lines_are, reading-is) claims.reading;
        empty = rw (lines_are, reading-is) claims.empty;
        greatest = λ x e. rw (lines_are) (best-most _ _ x (sym reading-is ∙ e) claims.reading);
        counts = λ n h. rw (counts-are, verdicts-are) (claims.counts n h);
        ended = all-ended b ws;
        bad_stops = all-given b ws;
        errors = errors;
        judged = rw (lines_are, counts-are) (claims.judged ∙ total-split (took_all (fresh_decoder station) all).counts ∙ unfold place in refl);
        verdicts = rw (lines_are, verdicts-are) claims.verdicts;
        shown = rw (lines_are, reading-is) claims.shown;
        each = λ ls rs l e. each_at ls rs l e;
        fields = λ ls rs w e k r. as_said ls (line_of (line_by w)) _ (unfold on_fields in judging.fields w k station (stands station ls) r) (each_at ls rs (line_of (line_by w)) e);
        written = written_at;
        readable = readable-at;
        covered = covered-at;
        alike = λ v w c d a m r p q. decoders.alike c d v w a.rules.0 a.rules.1 a.readers.0 a.readers.1 a.station a.stamp a.age a.level m r p q;
        newer = λ ls rs f e i h. (as_said ls (line_of (hex_line f)) _ (judging.judge-newer station (stands station ls) f i h) (each_at ls rs (line_of (hex_line f)) e), counted-17 ls f i h);
      }

is-fresh : (rate station : ℕ) (role : Role) → decoder (fresh rate station role) ≡ fresh_decoder (fresh rate station role).station
unfolding fresh fresh_decoder
is-fresh rate station role = refl

fresh-rate : (rate station : ℕ) (role : Role) → (fresh rate station role).receiver.resampler.src ≡ rate
unfolding fresh fresh_demod resample.fresh
fresh-rate rate station role = refl

pub third : (rate station : ℕ) (role : Role) (ws : List (List Float))
    → Term3 (fresh rate station role) ws (after_all (fresh rate station role) ws) (answers_all (fresh rate station role) ws)
third rate station role ws =
    term (fresh rate station role) (is-fresh rate station role) ws (board-paced rate station role ws)
    (λ ok. fresh-errors rate station role (subst (λ (r : ℕ). rate_refused r ≡ false) (fresh-rate rate station role) ok) ws)
