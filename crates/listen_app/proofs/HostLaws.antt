-- A write ends 103 lines at the most, and their answers stand at the front of what is lent for them. Assumes nothing.
use Rattle.board.specs.declared.board.Summary.{Summary}
use Prim.Native.Nat.{ℕ, ◌≤◌}
use mathlib.Core.Path.{◌≡◌, refl, sym, ◌∙◌, ap}
use mathlib.Core.Bool.{Bool, true, false}
use mathlib.Core.List.{List, []}
use native.Mathlib.Omega.{arith}
use borrow.Author.Tests.{eqb-true, ltb-false}
use lib.Dec.{ltb}
use lib.ListN.{length, take}
use lib.Ieee.{Float}
use Rattle.std.specs.Prelude.{if◌then◌else◌}
use Rattle.refusal.specs.Refusals.{first}
use Rattle.refusal.proofs.RefusalLaws.{first-yes}
use Rattle.happenings.specs.Happening.{bytes_in}
use Rattle.modem.specs.Listener.{heard_by}
use Rattle.modem.specs.ListenerRep.{demod_of}
use Rattle.modem.proofs.RxLaws.{heard-most}
use Rattle.modem.proofs.RxCalls.{listener-listens, listener-sound-of}
use Rattle.tide.specs.Decoder.{lines_in}
use Rattle.tide.proofs.DecoderLaws.{lines-verdicts, laid-length, laid-front}
use Rattle.board.specs.Plain as plain
use Rattle.board.specs.BoardRep.{plain_of, answer_of, Writes, WritesInto}
use Rattle.board.specs.declared.board.Board.{Board}
use Rattle.refusal.specs.declared.Answered.{Answered}
use Rattle.listen_app.specs.HostRep.{most_lines, ended_in}

-- ---- the lines that a write ends
short : (b : plain.Plain) (xs : List Float) → plain.accepts b xs ≡ true → length xs ≤ 1024
unfolding plain.accepts plain.number
short b xs e = ltb-false 1024 (length xs) (by (ltb 1024 (length xs)) _ (eqb-true _ 0 e))
  where
    by : (t : Bool) (n : ℕ) → first t 3 n ≡ 0 → t ≡ false
    by true n e = let a = sym (first-yes 3 n) ∙ e in absurd (omega arith)
    by false n e = refl

few_bytes : (b : Board) (xs : List Float) → length (bytes_in (plain.heard_in (plain_of b) xs)) ≤ most_lines
unfolding plain.heard_in plain.heard_of plain_of
few_bytes b xs = by (plain.accepts (plain_of b) xs) refl
  where
    by : (t : Bool) → plain.accepts (plain_of b) xs ≡ t → length (bytes_in (if t then (heard_by (demod_of b.listener) xs).happenings else [])) ≤ most_lines
    by true e = omega (arith, heard-most (demod_of b.listener) xs (listener-listens b.listener (listener-sound-of b.listener)), short (plain_of b) xs e)
    by false e = unfold bytes_in in omega arith

pub few-lines : (b : Board) (xs : List Float) → length (plain.lines (plain_of b) xs) ≤ most_lines
unfolding plain.lines
few-lines b xs =
    let v = lines-verdicts (plain.heard_in (plain_of b) xs) (plain.decoder (plain_of b)) in
    omega (arith, v.0, v.1, few_bytes b xs)

-- ---- and what is told of them
ended-plain : (b : plain.Plain) (xs : List Float) → ended_in (plain.answer b xs) ≡ length (plain.lines b xs)
unfolding plain.answer plain.summary plain.lines plain.heard_in lines_in
ended-plain b xs = by (plain.accepts b xs) refl
  where
    by : (t : Bool) → plain.accepts b xs ≡ t → ended_in (plain.answer b xs) ≡ length (plain.lines b xs)
    by true e = rw e refl
    by false e = rw e refl

pub ended_is : (b : Board) (xs : List Float) (w : Answered Board Summary) → Writes b xs w → ended_in (answer_of w.answer) ≡ length (plain.lines (plain_of b) xs)
ended_is b xs w h = ap ended_in h.answer ∙ ended-plain (plain_of b) xs

module _ (b : Board) (xs : List Float) (out : List ℕ) (w : Answered Board Summary) (out' : List ℕ) (l : most_lines ≤ length out) (h : WritesInto b xs out w out') where
  -- there is room for all answers
  pub all_told : ended_in (answer_of w.answer) ≤ length out'
  all_told =
      let n : length out' ≡ length out = rw h.verdicts (laid-length _ out) in
      omega (arith, ended_is b xs w h.writes, few-lines b xs, n, l)

  -- what `tell` prints is each line's answer, in order
  pub each-told : take (ended_in (answer_of w.answer)) out' ≡ plain.verdicts (plain_of b) xs
  unfolding plain.lines plain.verdicts
  each-told =
      let v = lines-verdicts (plain.heard_in (plain_of b) xs) (plain.decoder (plain_of b)) in
      let n : ended_in (answer_of w.answer) ≡ length (plain.verdicts (plain_of b) xs) = ended_is b xs w h.writes ∙ v.0 in
      rw (n, h.verdicts) (laid-front (plain.verdicts (plain_of b) xs) out (omega (arith, v.0, l, few-lines b xs)))
