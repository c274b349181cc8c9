-- What a write makes of a host. Assumes nothing.
use Rattle.board.specs.declared.board.Board.{Board}
use Prim.Native.Nat.{ℕ, zero, suc, ◌+◌, ◌-◌, ◌/◌, ◌%◌, ◌≤◌, ◌<◌, min}
use mathlib.Core.Path.{◌≡◌, refl, sym, ap, ◌∙◌}
use mathlib.Core.Logic.{◌⊎◌, inl, inr}
use mathlib.Core.Bool.{Bool, true, false}
use mathlib.Core.List.{List}
use native.Mathlib.Omega.{arith}
use borrow.Author.Tests.{eqb-true, eq-eqb, ne_eqb}
use lib.Dec.{eqb}
use lib.ListN.{length, take, drop, length-drop, drop_of_length-le}
use lib.Seq.{take_all, drop-drop, drop-length}
use lib.Ieee.{Float}
use Rattle.std.specs.Prelude.{if◌then◌else◌, Ok, Err}
use Rattle.tide.specs.DecoderRep.{most_count}
use Rattle.tide.proofs.DecoderRepLaws.{min-by}
use Rattle.refusal.specs.Refusals.{number_of}
use Rattle.refusal.specs.declared.Refusal.{Refusal}
use Rattle.board.specs.Plain as plain
use Rattle.board.specs.BoardRep.{plain_of, summary_of, answer_of}
use Rattle.board.specs.BoardRep as board
use Rattle.refusal.specs.declared.Answered.{Answered}
use Rattle.board.specs.declared.board.Summary.{Summary}
use Rattle.listen_app.specs.Host.{PlainHost, renewed, with_lines, with_unheard, wrote, heard_piece, heard_eights, eights_in, heard_block}
use Rattle.listen_app.specs.HostRep.{host_of, Hosts, Writes}
use Rattle.listen_app.specs.declared.host.Host.{Host}
use Rattle.listen_app.specs.declared.host.Attempt.{Attempt}

-- lines counted one by one
pub count_none : (n : ℕ) → n ≤ most_count → n ≡ min (n + 0) most_count
count_none n h = omega (arith, h)

pub count-more : (n i k r : ℕ) → k ≡ min (n + i) most_count → r ≡ min (k + 1) most_count → r ≡ min (n + (i + 1)) most_count
count-more n i k r e q = omega (arith, e, q)

-- what an answer says of its write
refused-is : (b : plain.Plain) (xs : List Float) (n : ℕ) → plain.refused n ≡ plain.answer b xs → (plain.accepts b xs ≡ false) × (n ≡ plain.number b xs)
unfolding plain.answer
refused-is b xs n e = by (plain.accepts b xs) e
  where
    by : (t : Bool) → plain.refused n ≡ (if t then plain.heard (plain.summary b xs) else plain.refused (plain.number b xs))
        → (t ≡ false) × (n ≡ plain.number b xs)
    by true q = absurd (let z : ◌≡◌ {A = ℕ} 0 1 = cc in omega arith)
    by false q = (refl, cc)

heard-is : (b : plain.Plain) (xs : List Float) (x : plain.Summary) → plain.heard x ≡ plain.answer b xs
    → (plain.accepts b xs ≡ true) × (x.lines ≡ length (plain.lines b xs)) × (0 ≡ plain.number b xs)
unfolding plain.answer plain.summary plain.accepts
heard-is b xs x e = by (eqb (plain.number b xs) 0) refl e
  where
    by : (t : Bool) → eqb (plain.number b xs) 0 ≡ t → plain.heard x ≡ (if t then plain.heard (plain.summary b xs) else plain.refused (plain.number b xs))
        → (t ≡ true) × (x.lines ≡ length (plain.lines b xs)) × (0 ≡ plain.number b xs)
    by true n q = (refl, (let s : x ≡ plain.summary b xs = cc in ap (λ (y : plain.Summary). y.lines) s), sym (eqb-true _ 0 n))
    by false n q = absurd (let z : ◌≡◌ {A = ℕ} 0 1 = cc in omega arith)

module _ (h : Host) (xs : List Float) (w : Answered Board Summary) (k : board.Writes h.board xs w) where
  -- refused
  pub writes-refused : (r : Attempt) (why : Refusal) → w.answer ≡ Err why → host_of r.host ≡ with_unheard (host_of h) (length xs)
      → r.number ≡ number_of why → Writes h xs r
  unfolding wrote
  writes-refused r why e q n =
      let a = refused-is (plain_of h.board) xs (number_of why) (ap answer_of (sym e) ∙ k.answer) in
      record { host = record { same = rw a.0 q }; number = n ∙ a.1 }

  -- heard
  pub writes-heard : (r : Attempt) (x : Summary) (n : ℕ) → w.answer ≡ Ok x → n ≡ x.lines
      → host_of r.host ≡ with_lines (host_of h) (plain_of w.state) n → r.number ≡ 0 → Writes h xs r
  unfolding wrote
  writes-heard r x n e m q z =
      let a = heard-is (plain_of h.board) xs (summary_of x) (ap answer_of (sym e) ∙ k.answer) in
      record {
        host = record { same = rw a.0 (q ∙ rw (k.state, m, a.1) refl) };
        number = z ∙ a.2;
      }

-- ---- pieces and blocks
module _ (h : PlainHost) (xs : List Float) (n : ℕ) (e : n ≡ plain.number h.board xs) where
  -- the board has no room, or it has
  pub piece-fresh : n ≡ 31 → heard_piece h xs ≡ wrote (renewed h) xs
  unfolding heard_piece
  piece-fresh k = rw (eq-eqb _ _ (sym e ∙ k))

  pub piece-room : (n ≡ 31 → ⊥) → heard_piece h xs ≡ wrote h xs
  unfolding heard_piece
  piece-room k = rw (ne_eqb _ _ (λ q. k (e ∙ q)))

  -- a sample is refused, or none
  pub block-eights : n ≡ 4 → heard_block h xs ≡ heard_eights (eights_in (length xs)) h xs
  unfolding heard_block
  block-eights k = rw (eq-eqb _ _ (sym e ∙ k))

  pub block-whole : (n ≡ 4 → ⊥) → heard_block h xs ≡ heard_piece h xs
  unfolding heard_block
  block-whole k = rw (ne_eqb _ _ (λ q. k (e ∙ q)))

pub hosts-as : {g h : PlainHost} {r : Host} → h ≡ g → Hosts g r → Hosts h r
hosts-as e k = record { same = k.same ∙ sym e }

-- ---- eight by eight
eights-count : (n : ℕ) → n / 8 + (n % 8 + 7) / 8 ≡ eights_in n
eights-count n = omega arith

rest-is : (xs : List Float) (at : ℕ) → take (length xs - at) (drop at xs) ≡ drop at xs
rest-is xs at = take_all (length xs - at) (drop at xs) (omega (arith, length-drop at xs))

next-is : (xs : List Float) (at next : ℕ) → next ≡ min (at + 8) (length xs) → drop next xs ≡ drop 8 (drop at xs)
next-is xs at next e = by (min-by (at + 8) (length xs))
  where
    by : ((at + 8 ≤ length xs) × (min (at + 8) (length xs) ≡ at + 8)) ⊎ ((length xs ≤ at + 8) × (min (at + 8) (length xs) ≡ length xs))
        → drop next xs ≡ drop 8 (drop at xs)
    by (inl h) = rw (drop-drop 8 at xs, e, h.1) refl
    by (inr h) = rw (drop-drop 8 at xs, drop_of_length-le xs {i = at + 8} h.0, e, h.1) (drop-length xs)

pub eights-on : (xs : List Float) (left at next : ℕ) (h g : PlainHost) → 0 < left → next ≡ min (at + 8) (length xs)
    → g ≡ heard_piece h (take 8 (take (length xs - at) (drop at xs))) → heard_eights (left - 1) g (drop next xs) ≡ heard_eights left h (drop at xs)
unfolding heard_eights
eights-on xs zero at next h g l n e = absurd (omega arith)
eights-on xs (suc k) at next h g l n e =
    let p : suc k - 1 ≡ k = omega arith in
    rw (p, next-is xs at next n, e, rest-is xs at) refl

pub eights-end : (xs : List Float) (h g : PlainHost) (left : ℕ) → left ≤ 0 → heard_eights left g xs ≡ h → g ≡ h
unfolding heard_eights
eights-end xs h g zero l e = e
eights-end xs h g (suc k) l e = absurd (omega arith)

pub eights-all : (xs : List Float) (h g : PlainHost) → g ≡ heard_eights (length xs / 8 + (length xs % 8 + 7) / 8) h (drop 0 xs)
    → g ≡ heard_eights (eights_in (length xs)) h xs
eights-all xs h g e = e ∙ rw (eights-count (length xs)) refl

-- ---- fewer than eight samples are all in front
pub front-all : (xs : List Float) → length xs < 8 → take 8 xs ≡ xs
front-all xs l = take_all 8 xs (omega arith)
