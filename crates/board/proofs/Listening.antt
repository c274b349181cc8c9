-- The third term, of the code. Assumes nothing.
use Rattle.std.specs.Prelude.{Ok, Err}
use Rattle.board.specs.declared.board.Board.{Board}
use Prim.Native.Nat.{ℕ}
use mathlib.Core.Path.{◌≡◌, refl, sym, ap, ◌∙◌}
use mathlib.Core.List.{List}
use lib.ListN.{take}
use lib.Ieee.{Float}
use Rattle.refusal.specs.Refusals.{reply_in}
use Rattle.bell103.specs.declared.Role.{Role}
use Rattle.refusal.specs.declared.Refusal.{Refusal}
use Rattle.board.specs.Plain.{fresh, answers_all}
use Rattle.board.specs.BoardRep.{Makes}
use Rattle.board.specs.Runs.{writes_of, RunFrom, Listens}
use Rattle.board.proofs.Third.{third}
use Rattle.board.proofs.HostedLaws.{new-accepted, new-refused, fresh-made}
use Rattle.refusal.specs.declared.Answered.{Answered}
use Rattle.board.specs.declared.writes.Listened.{Listened}

module _ (rate station : ℕ) (role : Role) (s : List Float) (ns a : List ℕ) (m : Answered Board Unit) (made : Makes rate station role m) where
  pub listens-refused : (why : Refusal) → m.answer ≡ Err why → Listens rate station role s ns a (record { answer = m.answer; writes = 0; state = m.state }) a
  listens-refused why e =
      record {
        answer = made.answer;
        refused = λ _. record { writes = refl; state = made.state; answers = refl };
        run = λ z. absurd (new-refused rate station role m made why e z);
      }

  pub listens-run : m.answer ≡ Ok tt → (r : Listened) (a' : List ℕ) → RunFrom m.state s ns a r a' → Listens rate station role s ns a r a'
  listens-run e r a' k =
      let z = new-accepted rate station role m made e in
      let f = fresh-made rate station role m made e in
      record {
        answer = ap reply_in (k.answer ∙ sym e) ∙ made.answer;
        refused = λ h. absurd (h z);
        run = λ _. record {
          writes = k.writes;
          said = answers_all (fresh rate station role) (writes_of s (take r.writes ns));
          term = rw (k.state, f) (third rate station role (writes_of s (take r.writes ns)));
          answers = rw (← f) k.answers;
        };
      }
