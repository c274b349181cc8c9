-- The third term for a host that calls `new` and `write` itself: it follows from what the calls ensure. Assumes nothing.
use Rattle.std.specs.Prelude.{Ok, Err}
use Prim.Native.Nat.{ℕ, zero, suc}
use mathlib.Core.Path.{◌≡◌, refl, sym, ap, ap₂, ◌∙◌}
use mathlib.Core.List.{List, [], ◌∷◌}
use native.Mathlib.Omega.{arith}
use lib.Ieee.{Float}
use Rattle.refusal.specs.Refusals.{given, reply_in, reply_of}
use Rattle.bell103.specs.declared.Role.{Role}
use Rattle.refusal.specs.declared.Refusal.{Refusal}
use Rattle.board.specs.Plain.{Plain, Answer, fresh, new_number, new_of, after_all, answers_all}
use Rattle.board.proofs.PlainLaws.{new-fresh}
use Rattle.board.specs.Term.{Term3}
use Rattle.board.proofs.Third.{third}
use Rattle.board.specs.BoardRep.{plain_of, Makes}
use Rattle.board.specs.declared.board.Board.{Board}
use Rattle.refusal.specs.declared.Answered.{Answered}
use Rattle.board.specs.Hosted.{Calls, Follows}

-- ---- what `new` answered
module _ (rate station : ℕ) (role : Role) (m : Answered Board Unit) (made : Makes rate station role m) where
  number_of : reply_in m.answer ≡ reply_of (new_number rate station)
  unfolding new_of
  number_of = made.answer

  pub new-accepted : m.answer ≡ Ok tt → new_number rate station ≡ 0
  new-accepted e = by (new_number rate station) (ap reply_in (sym e) ∙ number_of)
    where
      by : (n : ℕ) → given tt ≡ reply_of n → n ≡ 0
      by zero z = refl
      by (suc n) z = let y : ◌≡◌ {A = ℕ} 0 1 = cc in absurd (omega arith)

  pub new-refused : (why : Refusal) → m.answer ≡ Err why → new_number rate station ≡ 0 → ⊥
  new-refused why e z =
      let a = ap reply_in (sym e) ∙ number_of ∙ ap reply_of z in
      let y : ◌≡◌ {A = ℕ} 0 1 = cc in
      omega arith

  pub fresh-made : m.answer ≡ Ok tt → plain_of m.state ≡ fresh rate station role
  fresh-made e = made.state ∙ new-fresh rate station role (new-accepted e)

pub follows : (b : Board) (ws : List (List Float)) (end : Board) (said : List Answer) → Calls b ws end said → Follows b ws end said
unfolding after_all answers_all
follows b [] end said c = record { board = ap plain_of c.0; answers = c.1 }
follows b (s ∷ ws) end [] c = absurd c
follows b (s ∷ ws) end (a ∷ said) c =
    let r = c.0 in
    let w = c.1 in
    let k = follows r.state ws end said c.3 in
    record {
      board = k.board ∙ ap (λ (x : Plain). after_all x ws) w.state;
      answers =
          ap₂ (λ (x : Answer) (xs : List Answer). x ∷ xs) (sym c.2 ∙ w.answer) (k.answers ∙ ap (λ (x : Plain). answers_all x ws) w.state);
    }

-- whoever holds what `new` and each `write` ensured has the third term of the list
pub hosted : (rate station : ℕ) (role : Role) (m : Answered Board Unit) (ws : List (List Float)) (end : Board) (said : List Answer)
    → Makes rate station role m → m.answer ≡ Ok tt → Calls m.state ws end said → Term3 (fresh rate station role) ws (plain_of end) said
hosted rate station role m ws end said made e c =
    let k = follows m.state ws end said c in
    rw (k.board, k.answers, fresh-made rate station role m made e) (third rate station role ws)
