-- A list of writes, run by the code. Assumes nothing.
use Rattle.board.specs.declared.board.Summary.{Summary}
use Rattle.std.specs.Prelude.{Ok}
use Prim.Native.Nat.{ℕ, min, ◌+◌, ◌*◌, ◌-◌, ◌/◌, ◌<◌, ◌≤◌, zero-le}
use mathlib.Core.Path.{◌≡◌, refl, sym, ap, ◌∙◌}
use mathlib.Core.List.{List, [], ◌∷◌, ◌++◌, append_assoc, append-nil}
use native.Mathlib.Nat.{min-le_left, min-le_right}
use native.Mathlib.Numerals.{add-one}
use native.Mathlib.Omega.{arith}
use lib.ListN.{length, get_or, take, drop, take-append-drop}
use lib.Seq.{drop-cons, drop-drop, drop-length, length-take-le, get_or-take}
use lib.Ieee.{Float}
use Rattle.numeric.proofs.Parts.{take_behind, drop-behind, part-next, part_left}
use Rattle.board.specs.Plain.{Plain, Answer, refused, heard, answer, after_all, answers_all}
use Rattle.board.specs.BoardRep.{plain_of, answer_of, Writes}
use Rattle.board.specs.Runs.{writes_of, numbers_of, numbers_all, writes_run, Within, Stepped, RunFrom}
use Rattle.board.specs.declared.board.Board.{Board}
use Rattle.refusal.specs.declared.Answered.{Answered}
use Rattle.board.specs.declared.writes.Place.{Place}
use Rattle.board.specs.declared.numbers.Numbers.{Numbers}

-- ---- one write: the samples up to e are lent, and its answer's numbers are written
pub steps : (p : Place) (n e : ℕ) (s : List Float) (w : Answered Board Summary) (t : Numbers) (at : ℕ) (a a' : List ℕ)
    → e ≡ p.read + min n (length s - p.read) → e ≤ length s
    → Writes p.board (take (e - p.read) (drop p.read s)) w
    → t.number ∷ t.bytes ∷ t.lines ∷ t.last ∷ t.bad_stops ∷ [] ≡ numbers_of (answer_of w.answer)
    → a' ≡ take at a ++ (t.number ∷ t.bytes ∷ t.lines ∷ t.last ∷ t.bad_stops ∷ drop (at + 5) a)
    → Stepped p (record { board = w.state; read = e }) n s at a a'
steps p n e s w t at a a' is fits writes numbers put =
    let k = part-next s p.read n e is in
    record {
      state = rw (← k) writes.state;
      left = part_left s p.read n e is;
      answers = rw (← k, ← writes.answer, ← numbers) put;
      within = record { read = fits };
    }

-- ---- part of the way: after i writes of the lengths ns, at p, with the answers a in the place of a₀; what the rest does on p is what all do on b₀
pub record Going (b₀ : Plain) (s : List Float) (ns a₀ : List ℕ) (i : ℕ) (p : Place) (a : List ℕ) : Type 0 where
  pub within : Within p s
  pub board : after_all (plain_of p.board) (writes_of (drop p.read s) (drop i ns)) ≡ after_all b₀ (writes_of s ns)
  pub answers : take (5 * i) a ++ numbers_all (answers_all (plain_of p.board) (writes_of (drop p.read s) (drop i ns))) ≡ numbers_all (answers_all b₀ (writes_of s ns))
  pub rest : drop (5 * i) a ≡ drop (5 * i) a₀

pub going_start : (b : Board) (s : List Float) (ns a : List ℕ) → Going (plain_of b) s ns a 0 (record { board = b; read = 0 }) a
going_start b s ns a = record { within = record { read = zero-le }; board = refl; answers = refl; rest = refl }

module _ (b₀ : Plain) (s : List Float) (ns a₀ : List ℕ) (i : ℕ) (p q : Place) (a a' : List ℕ) (some : i < length ns) (room : 5 * i + 5 ≤ length a)
    (step : Stepped p q (get_or ns i 0) s (5 * i) a a') where
  abbrev gave : Answer
  gave = answer (plain_of p.board) (take (get_or ns i 0) (drop p.read s))

  abbrev said : List ℕ
  said = numbers_of gave

  next_place : 5 * (i + 1) ≡ 5 * i + 5
  next_place = omega arith

  front : length (take (5 * i) a) ≡ 5 * i
  front = length-take-le (5 * i) a (omega arith)

  numbers-all : (x : Answer) (l : List ℕ) → (take 5 (numbers_of x ++ l) ≡ numbers_of x) × (drop 5 (numbers_of x ++ l) ≡ l)
  numbers-all (refused n) l = (refl, refl)
  numbers-all (heard x) l = (refl, refl)

  answered : take (5 * (i + 1)) a' ≡ take (5 * i) a ++ said
  answered =
      rw (next_place, step.answers) (take_behind (take (5 * i) a) (said ++ drop (5 * i + 5) a) (5 * i) 5 front)
      ∙ ap (λ (l : List ℕ). take (5 * i) a ++ l) (numbers-all gave (drop (5 * i + 5) a)).0

  unanswered : drop (5 * (i + 1)) a' ≡ drop (5 * i + 5) a
  unanswered =
      rw (next_place, step.answers) (drop-behind (take (5 * i) a) (said ++ drop (5 * i + 5) a) (5 * i) 5 front)
      ∙ (numbers-all gave (drop (5 * i + 5) a)).1

  next : drop i ns ≡ get_or ns i 0 ∷ drop (i + 1) ns
  next = rw (add-one i) (drop-cons ns i 0 some)

  pub going_on : Going b₀ s ns a₀ i p a → Going b₀ s ns a₀ (i + 1) q a'
  unfolding writes_of after_all answers_all numbers_all
  going_on g =
      record {
        within = step.within;
        board = rw (step.state, step.left) (rw next at g.board);
        answers = rw (answered, append_assoc, step.state, step.left) (rw next at g.answers);
        rest = unanswered ∙ sym (drop-drop 5 (5 * i) a) ∙ ap (λ (l : List ℕ). drop 5 l) g.rest ∙ drop-drop 5 (5 * i) a₀ ∙ ap (λ (k : ℕ). drop k a₀) (sym next_place);
      }

-- ---- after the last
pub goes_through : (b : Board) (s : List Float) (ns a₀ : List ℕ) (i : ℕ) (p : Place) (a : List ℕ)
    → i ≡ writes_run ns a₀ → Going (plain_of b) s (take i ns) a₀ i p a
    → RunFrom b s ns a₀ (record { answer = Ok tt; writes = i; state = p.board }) a
unfolding writes_of after_all answers_all numbers_all
goes_through b s ns a₀ i p a e g =
    let l : length (take i ns) ≡ i = length-take-le i ns (omega (arith, e, min-le_left (length ns) (length a₀ / 5))) in
    let z : drop i (take i ns) ≡ [] = ap (λ (k : ℕ). drop k (take i ns)) (sym l) ∙ drop-length (take i ns) in
    record {
      answer = refl;
      writes = e;
      state = rw z at g.board;
      answers =
          let f : take (5 * i) a ≡ numbers_all (answers_all (plain_of b) (writes_of s (take i ns))) = sym (append-nil (take (5 * i) a)) ∙ (rw z at g.answers) in
          sym (take-append-drop (5 * i) a) ∙ ap (λ (x : List ℕ). x ++ drop (5 * i) a) f ∙ ap (λ (x : List ℕ). numbers_all (answers_all (plain_of b) (writes_of s (take i ns))) ++ x) g.rest;
    }

-- the writes that are run have a length and room
pub in_reach : (w i : ℕ) (ns a₀ : List ℕ) → w ≡ writes_run ns a₀ → i < w
    → (i < length (take w ns)) × (5 * i + 5 ≤ length a₀) × (get_or (take w ns) i 0 ≡ get_or ns i 0)
in_reach w i ns a₀ e h =
    let k = min-le_left (length ns) (length a₀ / 5) in
    let m = min-le_right (length ns) (length a₀ / 5) in
    let l : length (take w ns) ≡ w = length-take-le w ns (omega (arith, e, k)) in
    (omega arith, omega (arith, e, m), get_or-take w ns i 0 h)
