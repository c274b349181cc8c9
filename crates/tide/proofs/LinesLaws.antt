-- What the decoder judges are the lines of what is heard: each stands between two 0A with no loss between. Assumes nothing.
use Prim.Native.Nat.{ℕ, ◌≤◌, ◌<◌}
use mathlib.Core.Path.{◌≡◌, refl, sym, ap, ap₂, ◌∙◌}
use mathlib.Core.Logic.{inl, inr}
use mathlib.Core.Bool.{Bool, true, false}
use mathlib.Core.List.{List, [], ◌∷◌, ◌++◌, append-nil, append_assoc}
use native.Mathlib.Omega.{arith}
use borrow.Author.Tests.{ltb-true, ltb-false, lt-ltb, le-ltb, eqb-true}
use lib.Dec.{ltb, eqb}
use lib.ListN.{length, take, length-append}
use lib.Seq.{take_all, take-append-le, length-take-le}
use Rattle.std.specs.Prelude.{if◌then◌else◌}
use Rattle.happenings.specs.Happening.{byte_of, bytes_in}
use Rattle.happenings.proofs.HappeningLaws.{bytes-append}
use Rattle.happenings.specs.declared.happening.Happening.{Happening}
use Rattle.happenings.specs.declared.happening.Happening.TheVariants.{Byte, BadStop, Lost, Up, Down}
use Rattle.tide.specs.Decoder.{Line, empty_line, Decoder, fresh_decoder, longer, ended, grown, cleared, ends, grows, resumes, stays, byte_move, move_of, move_at, moved, took, took_all, line_at, lines_in, verdicts_in}
use Rattle.tide.specs.Lines.{is0_a, is_loss, any0_a, any_loss, on_first, pieces_of, line_from, line_in, whole_lines, lines_of, Opened, Unbroken, behind0_a, Skips}
use Rattle.tide.proofs.DecoderLaws.{took_all-append, lines_in-append, lines-verdicts}

-- ---- a line that collects a text, character by character
longer-by : (t : Bool) (p : List ℕ) (c : ℕ) → ltb (length p) 64 ≡ t → longer (line_from p) c ≡ line_from (p ++ c ∷ [])
unfolding longer line_from
longer-by true p c e =
    let h = ltb-true (length p) 64 e in
    let n = length-append p (c ∷ []) in
    let a : length p ≤ 64 = omega arith in
    let b : length (p ++ c ∷ []) ≤ 64 = omega arith in
    rw (take_all 64 p a, take_all 64 (p ++ c ∷ []) b, e, le-ltb 64 (length p) a, le-ltb 64 (length (p ++ c ∷ [])) b) refl
longer-by false p c e =
    let h = ltb-false (length p) 64 e in
    let n = length-append p (c ∷ []) in
    let b : 64 < length (p ++ c ∷ []) = omega arith in
    let l = length-take-le 64 p h in
    let z : ltb (length (take 64 p)) 64 ≡ false = le-ltb (length (take 64 p)) 64 (omega arith) in
    rw (z, take-append-le 64 p (c ∷ []) h, lt-ltb 64 (length (p ++ c ∷ [])) b) refl

-- ---- a loss, and no loss, behind a piece
loss-stays : (p : List Happening) (h : Happening) → is_loss h ≡ false → any_loss (p ++ h ∷ []) ≡ any_loss p
unfolding any_loss
loss-stays [] h e = rw e refl
loss-stays (x ∷ p) h e = ap (λ (b : Bool). if is_loss x then true else b) (loss-stays p h e)

loss-more : (p : List Happening) → any_loss (p ++ Lost ∷ []) ≡ true
unfolding any_loss
loss-more [] = refl
loss-more (x ∷ p) = rw (loss-more p) (either (is_loss x))
  where
    either : (t : Bool) → (if t then true else true) ≡ true
    either true = refl
    either false = refl

bytes-more : (p : List Happening) (h : Happening) → bytes_in (p ++ h ∷ []) ≡ bytes_in p ++ byte_of h
bytes-more p h = bytes-append p (h ∷ []) ∙ ap (λ (bs : List ℕ). bytes_in p ++ bs) (unfold bytes_in in append-nil (byte_of h))

-- ---- a decoder part of the way through a piece: it skips where the carrier was lost in it, and its line is the piece's where it was not
record Collects (d : Decoder) (p : List Happening) : Type 0 where
  skips : d.skipping ≡ any_loss p
  line : any_loss p ≡ false → d.line ≡ line_from (bytes_in p)

collects-none : (d : Decoder) → d.skipping ≡ false → d.line ≡ empty_line → Collects d []
unfolding any_loss bytes_in line_from
collects-none d e f = record { skips = e; line = λ _. f }

collects-char : (d : Decoder) (p : List Happening) (c : ℕ) → Collects d p → Collects (grown d c) (p ++ Byte c ∷ [])
unfolding grown
collects-char d p c k =
    let e = loss-stays p (Byte c) refl in
    record {
      skips = k.skips ∙ sym e;
      line = λ n. ap (λ (l : Line). longer l c) (k.line (sym e ∙ n)) ∙ longer-by _ (bytes_in p) c refl ∙ ap line_from (sym (bytes-more p (Byte c)));
    }

collects-skipped : (d : Decoder) (p : List Happening) (h : Happening) → is_loss h ≡ false → d.skipping ≡ true → Collects d p → Collects d (p ++ h ∷ [])
collects-skipped d p h n s k =
    let e = loss-stays p h n in
    record { skips = k.skips ∙ sym e; line = λ w. absurd (let z : ◌≡◌ {A = ℕ} 0 1 = cc in omega arith) }

collects-still : (d : Decoder) (p : List Happening) (h : Happening) → is_loss h ≡ false → byte_of h ≡ [] → Collects d p → Collects d (p ++ h ∷ [])
collects-still d p h n b k =
    let e = loss-stays p h n in
    let f : bytes_in (p ++ h ∷ []) ≡ bytes_in p = bytes-more p h ∙ ap (λ (bs : List ℕ). bytes_in p ++ bs) b ∙ append-nil (bytes_in p) in
    record { skips = k.skips ∙ sym e; line = λ w. k.line (sym e ∙ w) ∙ ap line_from (sym f) }

collects-lost : (d : Decoder) (p : List Happening) → Collects (cleared d true) (p ++ Lost ∷ [])
unfolding cleared
collects-lost d p =
    let e = loss-more p in
    record { skips = sym e; line = λ w. absurd (let z : ◌≡◌ {A = ℕ} 0 1 = cc in omega arith) }

-- ---- the lines that what is heard ends, of a decoder part of the way through the piece p
first-none : (ps : List (List Happening)) → on_first [] ps ≡ ps
first-none [] = refl
first-none (q ∷ ps) = refl

first_more : (p : List Happening) (h : Happening) (ps : List (List Happening)) → on_first (p ++ h ∷ []) ps ≡ on_first p (on_first (h ∷ []) ps)
first_more p h [] = refl
first_more p h (q ∷ ps) = ap (λ (x : List Happening). x ∷ ps) (append_assoc p (h ∷ []) q)

abbrev Ends : List Happening → Type 0
Ends hs = (d : Decoder) (p : List Happening) → Collects d p → lines_in d hs ≡ whole_lines (on_first p (pieces_of hs))

ends-not : (h : Happening) (hs : List Happening) → Ends hs → (d : Decoder) (p : List Happening) → Collects d (p ++ h ∷ [])
    → lines_in d hs ≡ whole_lines (on_first p (on_first (h ∷ []) (pieces_of hs)))
ends-not h hs ih d p k = ih d (p ++ h ∷ []) k ∙ ap whole_lines (first_more p h (pieces_of hs))

ends-here : (hs : List Happening) → Ends hs → (d : Decoder) → d.skipping ≡ false → d.line ≡ empty_line → lines_in d hs ≡ whole_lines (pieces_of hs)
ends-here hs ih d e f = ih d [] (collects-none d e f) ∙ ap whole_lines (first-none (pieces_of hs))

module _ (c : ℕ) (hs : List Happening) (ih : Ends hs) (d : Decoder) (p : List Happening) (k : Collects d p) where
  piece-line : d.skipping ≡ false → d.line ∷ [] ≡ line_in (p ++ [])
  unfolding line_in
  piece-line e =
      let n : any_loss p ≡ false = sym k.skips ∙ e in
      rw (append-nil, n) (ap (λ (l : Line). l ∷ []) (k.line n))

  reading-byte : (t : Bool) → d.skipping ≡ false
      → line_at d (if t then ends else grows c) ++ lines_in (moved d (if t then ends else grows c)) hs
      ≡ whole_lines (on_first p (if t then [] ∷ pieces_of hs else on_first (Byte c ∷ []) (pieces_of hs)))
  unfolding moved whole_lines
  reading-byte true e =
      ap₂ (λ (xs ys : List Line). xs ++ ys) (piece-line e) (ends-here hs ih (ended d) (unfold ended in e) (unfold ended in refl))
  reading-byte false e = ends-not (Byte c) hs ih (grown d c) p (collects-char d p c k)

  skipping-byte : (t : Bool) → d.skipping ≡ true
      → line_at d (if t then resumes else stays) ++ lines_in (moved d (if t then resumes else stays)) hs
      ≡ whole_lines (on_first p (if t then [] ∷ pieces_of hs else on_first (Byte c ∷ []) (pieces_of hs)))
  unfolding moved whole_lines line_in
  skipping-byte true e =
      let n : any_loss p ≡ true = sym k.skips ∙ e in
      rw (append-nil, n, ends-here hs ih (cleared d false) (unfold cleared in refl) (unfold cleared in refl)) refl
  skipping-byte false e = ends-not (Byte c) hs ih d p (collects-skipped d p (Byte c) refl e k)

  any-byte : (b : Bool) → d.skipping ≡ b
      → line_at d (byte_move b c) ++ lines_in (moved d (byte_move b c)) hs
      ≡ whole_lines (on_first p (if eqb c 10 then [] ∷ pieces_of hs else on_first (Byte c ∷ []) (pieces_of hs)))
  unfolding byte_move
  any-byte false e = reading-byte (eqb c 10) e
  any-byte true e = skipping-byte (eqb c 10) e

ends-heard : (hs : List Happening) → Ends hs
unfolding lines_in pieces_of took move_of moved
ends-heard [] d p k = unfold whole_lines in refl
ends-heard (Byte c ∷ hs) d p k = any-byte c hs (ends-heard hs) d p k d.skipping refl
ends-heard (BadStop ∷ hs) d p k = ends-not BadStop hs (ends-heard hs) d p (collects-still d p BadStop refl refl k)
ends-heard (Lost ∷ hs) d p k = ends-not Lost hs (ends-heard hs) (cleared d true) p (collects-lost d p)
ends-heard (Up ∷ hs) d p k = ends-not Up hs (ends-heard hs) d p (collects-still d p Up refl refl k)
ends-heard (Down ∷ hs) d p k = ends-not Down hs (ends-heard hs) d p (collects-still d p Down refl refl k)

-- from an empty line on, the lines judged are those of what is heard
pub lines-of-heard : (hs : List Happening) (d : Decoder) → d.skipping ≡ false → d.line ≡ empty_line → lines_in d hs ≡ lines_of hs
unfolding lines_of
lines-of-heard hs d e f = ends-here hs (ends-heard hs) d e f

-- ---- what was heard, put together again from its pieces
abbrev joined : List (List Happening) → List Happening
joined [] = []
joined (p ∷ ps) = p ++ Byte 10 ∷ joined ps

joined-append : (ps qs : List (List Happening)) → joined (ps ++ qs) ≡ joined ps ++ joined qs
joined-append [] qs = refl
joined-append (p ∷ ps) qs =
    rw (joined-append ps qs) (sym (append_assoc p (Byte 10 ∷ joined ps) (joined qs)))

joined-opens : (ps : List (List Happening)) → Opened (joined ps)
joined-opens [] = inl refl
joined-opens (p ∷ ps) = by (joined-opens ps)
  where
    by : Opened (joined ps) → Opened (p ++ Byte 10 ∷ joined ps)
    by (inl e) = inr (p, ap (λ (x : List Happening). p ++ Byte 10 ∷ x) e)
    by (inr (f, e)) = inr (p ++ Byte 10 ∷ f, ap (λ (x : List Happening). p ++ Byte 10 ∷ x) e ∙ sym (append_assoc p (Byte 10 ∷ f) (Byte 10 ∷ [])))

-- no 0A is in a piece
abbrev Clean : List (List Happening) → Type 0
Clean [] = Unit
Clean (p ∷ ps) = (any0_a p ≡ false) × Clean ps

clean-append : (ps qs : List (List Happening)) → Clean (ps ++ qs) → Clean ps × Clean qs
clean-append [] qs k = (tt, k)
clean-append (p ∷ ps) qs k = let r = clean-append ps qs k.1 in ((k.0, r.0), r.1)

end-first : (h : Happening) (hs : List Happening) → any0_a (h ∷ hs) ≡ false → (is0_a h ≡ false) × (any0_a hs ≡ false)
unfolding any0_a
end-first h hs e = by (is0_a h) e
  where
    by : (t : Bool) → (if t then true else any0_a hs) ≡ false → (t ≡ false) × (any0_a hs ≡ false)
    by true e = absurd (let z : ◌≡◌ {A = ℕ} 0 1 = cc in omega arith)
    by false e = (refl, e)

pieces-first : (p hs : List Happening) → any0_a p ≡ false → pieces_of (p ++ Byte 10 ∷ hs) ≡ p ∷ pieces_of hs
unfolding pieces_of
pieces-first [] hs n = refl
pieces-first (h ∷ p) hs n =
    let k = end-first h p n in
    rw (k.0, pieces-first p hs k.1) refl

pieces-joined : (ps : List (List Happening)) → Clean ps → pieces_of (joined ps) ≡ ps
pieces-joined [] k = unfold pieces_of in refl
pieces-joined (p ∷ ps) k =
    pieces-first p (joined ps) k.0 ∙ ap (λ (x : List (List Happening)). p ∷ x) (pieces-joined ps k.1)

record Pieces (hs : List Happening) (ps : List (List Happening)) : Type 0 where
  rest : List Happening
  split : hs ≡ joined ps ++ rest
  clean : Clean ps

is-end : (h : Happening) → is0_a h ≡ true → h ≡ Byte 10
is-end (Byte c) e = ap Byte (eqb-true c 10 e)
is-end BadStop e = absurd (let z : ◌≡◌ {A = ℕ} 0 1 = cc in omega arith)
is-end Lost e = absurd (let z : ◌≡◌ {A = ℕ} 0 1 = cc in omega arith)
is-end Up e = absurd (let z : ◌≡◌ {A = ℕ} 0 1 = cc in omega arith)
is-end Down e = absurd (let z : ◌≡◌ {A = ℕ} 0 1 = cc in omega arith)

pieces-not : (h : Happening) (hs : List Happening) (ps : List (List Happening)) → is0_a h ≡ false → Pieces hs ps → Pieces (h ∷ hs) (on_first (h ∷ []) ps)
pieces-not h hs [] n k = record { rest = h ∷ k.rest; split = ap (λ (x : List Happening). h ∷ x) k.split; clean = tt }
pieces-not h hs (p ∷ ps) n k =
    record {
      rest = k.rest;
      split = ap (λ (x : List Happening). h ∷ x) k.split;
      clean = (unfold any0_a in rw n k.clean.0, k.clean.1);
    }

pieces-by : (t : Bool) (h : Happening) (hs : List Happening) (ps : List (List Happening)) → is0_a h ≡ t → Pieces hs ps
    → Pieces (h ∷ hs) (if t then [] ∷ ps else on_first (h ∷ []) ps)
pieces-by true h hs ps e k =
    record {
      rest = k.rest;
      split = ap₂ (λ (x : Happening) (xs : List Happening). x ∷ xs) (is-end h e) k.split;
      clean = (unfold any0_a in refl, k.clean);
    }
pieces-by false h hs ps e k = pieces-not h hs ps e k

pieces : (hs : List Happening) → Pieces hs (pieces_of hs)
unfolding pieces_of
pieces [] = record { rest = []; split = refl; clean = tt }
pieces (h ∷ hs) = pieces-by (is0_a h) h hs (pieces_of hs) refl (pieces hs)

-- ---- the piece of a line
record Chosen (ps : List (List Happening)) (ls : List Line) (l : Line) : Type 0 where
  front : List (List Happening)
  piece : List Happening
  back : List (List Happening)
  split : ps ≡ front ++ piece ∷ back
  place : whole_lines front ≡ ls
  whole : any_loss piece ≡ false
  chars : l ≡ line_from (bytes_in piece)

no_line : (ls rs : List Line) (l : Line) → [] ≡ ls ++ l ∷ rs → ◌≡◌ {A = ℕ} 0 1
no_line [] rs l e = cc
no_line (x ∷ ls) rs l e = cc

chosen-later : (p : List Happening) (ps : List (List Happening)) (ks ls : List Line) (l : Line) → line_in p ≡ ks → Chosen ps ls l → Chosen (p ∷ ps) (ks ++ ls) l
chosen-later p ps ks ls l e k =
    record {
      front = p ∷ k.front;
      piece = k.piece;
      back = k.back;
      split = ap (λ (x : List (List Happening)). p ∷ x) k.split;
      place = unfold whole_lines in ap₂ (λ (xs ys : List Line). xs ++ ys) e k.place;
      whole = k.whole;
      chars = k.chars;
    }

chosen_by : (t : Bool) (p : List Happening) (ps : List (List Happening)) (ls rs : List Line) (l : Line) → any_loss p ≡ t
    → (if t then [] else line_from (bytes_in p) ∷ []) ++ whole_lines ps ≡ ls ++ l ∷ rs
    → ((ls : List Line) → whole_lines ps ≡ ls ++ l ∷ rs → Chosen ps ls l) → Chosen (p ∷ ps) ls l
chosen_by true p ps ls rs l n e ih = chosen-later p ps [] ls l (unfold line_in in rw n refl) (ih ls e)
chosen_by false p ps [] rs l n e ih =
    record { front = []; piece = p; back = ps; split = refl; place = unfold whole_lines in refl; whole = n; chars = cc }
chosen_by false p ps (x ∷ ls) rs l n e ih =
    let f : line_from (bytes_in p) ≡ x = cc in
    let g : whole_lines ps ≡ ls ++ l ∷ rs = cc in
    rw (← f) (chosen-later p ps (line_from (bytes_in p) ∷ []) ls l (unfold line_in in rw n refl) (ih ls g))

chosen : (ps : List (List Happening)) (ls rs : List Line) (l : Line) → whole_lines ps ≡ ls ++ l ∷ rs → Chosen ps ls l
unfolding whole_lines line_in
chosen [] ls rs l e = absurd (let z = no_line ls rs l e in omega arith)
chosen (p ∷ ps) ls rs l e = chosen_by (any_loss p) p ps ls rs l refl e (λ ks. chosen ps ks rs l)

-- no line is judged whose characters were heard on both sides of a loss
pub unbroken : (hs : List Happening) (ls rs : List Line) (l : Line) → lines_of hs ≡ ls ++ l ∷ rs → Unbroken hs ls l
unfolding lines_of
unbroken hs ls rs l e =
    let k = pieces hs in
    let c = chosen (pieces_of hs) ls rs l e in
    let f = c.front in
    let n : Clean f × Clean (c.piece ∷ c.back) = clean-append f (c.piece ∷ c.back) (rw c.split at k.clean) in
    let j : joined (pieces_of hs) ≡ joined f ++ (c.piece ++ Byte 10 ∷ joined c.back) = ap joined c.split ∙ joined-append f (c.piece ∷ c.back) in
    let later = joined c.back ++ k.rest in
    record {
      earlier = joined f;
      text = c.piece;
      later = later;
      split =
          k.split ∙ ap (λ (x : List Happening). x ++ k.rest) j
          ∙ append_assoc (joined f) (c.piece ++ Byte 10 ∷ joined c.back) k.rest
          ∙ ap (λ (x : List Happening). joined f ++ x) (append_assoc c.piece (Byte 10 ∷ joined c.back) k.rest);
      place = ap whole_lines (pieces-joined f n.0) ∙ c.place;
      opened = joined-opens f;
      next = n.1.0;
      whole = c.whole;
      chars = c.chars;
    }

-- ---- from a loss up to and including the next 0A
skip-one : (d : Decoder) (h : Happening) → is0_a h ≡ false → (took (cleared d true) h ≡ cleared d true) × (line_at (cleared d true) (move_at (cleared d true) h) ≡ [])
unfolding took move_of byte_move moved cleared
skip-one d (Byte c) n = rw n (refl, refl)
skip-one d BadStop n = (refl, refl)
skip-one d Lost n = (refl, refl)
skip-one d Up n = (refl, refl)
skip-one d Down n = (refl, refl)

skip_all : (d : Decoder) (hs : List Happening) → any0_a hs ≡ false → (took_all (cleared d true) hs ≡ cleared d true) × (lines_in (cleared d true) hs ≡ [])
unfolding took_all lines_in
skip_all d [] n = (refl, refl)
skip_all d (h ∷ hs) n =
    let e = end-first h hs n in
    let k = skip-one d h e.0 in
    let r = skip_all d hs e.1 in (
      ap (λ (x : Decoder). took_all x hs) k.0 ∙ r.0,
      ap₂ (λ (xs ys : List Line). xs ++ ys) k.1 (ap (λ (x : Decoder). lines_in x hs) k.0 ∙ r.1),
    )

resumed : (d : Decoder) → (took_all (cleared d true) (Byte 10 ∷ []) ≡ cleared d false) × (lines_in (cleared d true) (Byte 10 ∷ []) ≡ [])
unfolding took_all lines_in took move_of byte_move moved cleared
resumed d = (refl, refl)

no-answers : (hs : List Happening) (d : Decoder) → lines_in d hs ≡ [] → verdicts_in d hs ≡ []
no-answers hs d e = by (verdicts_in d hs) (sym (lines-verdicts hs d).0 ∙ ap length e)
  where
    by : (vs : List ℕ) → length vs ≡ 0 → vs ≡ []
    by [] n = refl
    by (v ∷ vs) n = absurd (omega arith)

lines-skipped : (d : Decoder) (text : List Happening) → any0_a text ≡ false → lines_in d (Lost ∷ text ++ Byte 10 ∷ []) ≡ []
unfolding lines_in took move_of moved
lines-skipped d text n =
    let end = Byte 10 ∷ [] in
    let a = skip_all d text n in
    lines_in-append (cleared d true) text end
    ∙ ap₂ (λ (xs ys : List Line). xs ++ ys) a.1 (ap (λ (x : Decoder). lines_in x end) a.0 ∙ (resumed d).1)

pub skips : (d : Decoder) (text : List Happening) → any0_a text ≡ false → Skips d text
unfolding took_all took move_of moved
skips d text n =
    let end = Byte 10 ∷ [] in
    let a = skip_all d text n in
    let l = lines-skipped d text n in
    record {
      still = a.0;
      ended = took_all-append (cleared d true) text end ∙ ap (λ (x : Decoder). took_all x end) a.0 ∙ (resumed d).0;
      lines = l;
      answers = no-answers (Lost ∷ text ++ end) d l;
    }

-- the first line behind a loss begins behind a 0A heard after it
behind-byte : (t : Bool) (hs : List Happening) (d : Decoder) → lines_in (cleared d true) hs ≡ lines_of (behind0_a hs)
    → line_at (cleared d true) (if t then resumes else stays) ++ lines_in (moved (cleared d true) (if t then resumes else stays)) hs
    ≡ lines_of (if t then hs else behind0_a hs)
unfolding moved
behind-byte true hs d ih = lines-of-heard hs (cleared (cleared d true) false) (unfold cleared in refl) (unfold cleared in refl)
behind-byte false hs d ih = ih

lines-behind : (hs : List Happening) (d : Decoder) → lines_in (cleared d true) hs ≡ lines_of (behind0_a hs)
unfolding lines_in behind0_a took move_of byte_move moved cleared
lines-behind [] d = unfold lines_of whole_lines pieces_of in refl
lines-behind (Byte c ∷ hs) d = behind-byte (eqb c 10) hs d (lines-behind hs d)
lines-behind (BadStop ∷ hs) d = lines-behind hs d
lines-behind (Lost ∷ hs) d = lines-behind hs d
lines-behind (Up ∷ hs) d = lines-behind hs d
lines-behind (Down ∷ hs) d = lines-behind hs d

fresh_lines : (hs : List Happening) → lines_in (fresh_decoder 0) hs ≡ lines_of hs
fresh_lines hs = lines-of-heard hs (fresh_decoder 0) (unfold fresh_decoder in refl) (unfold fresh_decoder in refl)

-- of a list with a loss in it: the lines of what was heard before, and those of what was heard behind the next 0A
pub voided : (hs ks : List Happening) → lines_of (hs ++ Lost ∷ ks) ≡ lines_of hs ++ lines_of (behind0_a ks)
voided hs ks =
    let d = took_all (fresh_decoder 0) hs in
    let e : lines_in d (Lost ∷ ks) ≡ lines_of (behind0_a ks) = unfold lines_in took move_of moved in lines-behind ks d in
    sym (fresh_lines (hs ++ Lost ∷ ks)) ∙ lines_in-append (fresh_decoder 0) hs (Lost ∷ ks) ∙ ap₂ (λ (xs ys : List Line). xs ++ ys) (fresh_lines hs) e
