-- What `listen` did, and what is shown of its state. Assumes nothing.
use Prim.Native.Nat.{ℕ, zero, suc, ◌*◌}
use mathlib.Core.Path.{◌≡◌, refl, ap, subst, ◌∙◌}
use mathlib.Core.Bool.{Bool, true, false}
use mathlib.Core.List.{List, ◌++◌}
use borrow.Author.Tests.{eqb-true, eqb-false}
use lib.Dec.{eqb}
use lib.ListN.{drop}
use lib.Ieee.{Float}
use Rattle.refusal.specs.Refusals.{reply_of, reply_in}
use Rattle.bell103.specs.declared.Role.{Role}
use Rattle.board.specs.Plain.{fresh, new_number, new_of}
use Rattle.board.specs.BoardRep.{plain_of}
use Rattle.board.specs.Runs.{width, writes_run, numbers_all, Runs, NotRun, Listens}
use Rattle.board.proofs.Third.{third}
use Rattle.board.specs.declared.writes.Listened.{Listened}
use Rattle.calls.specs.Shown.{shown_in}
use Rattle.calls.specs.Answers.{number_in}
use Rattle.calls.specs.Roles.{role_of}
use Rattle.ffi.specs.Listen.{writes_in, board_after, said, ran, listen_run, Heard}

-- ---- `new`
number-reply : (n : ℕ) → number_in (reply_of n) ≡ n
number-reply zero = refl
number-reply (suc n) = refl

-- what `new` answers has the number of its refusal
pub new-number : (rate station : ℕ) (role : Role) → number_in (new_of rate station role).answer ≡ new_number rate station
unfolding new_of
new-number rate station role = number-reply (new_number rate station)

-- ---- what `listen` did, in the role that a number says, and what is shown of its state
module _ (rate station n : ℕ) (s : List Float) (ns a sh : List ℕ) (g : Listened) (a' sh' : List ℕ)
    (did : Listens rate station (role_of n) s ns a g a') (shown-is : sh' ≡ shown_in (new_number rate station) (plain_of g.state) sh) where
  ran-all : new_number rate station ≡ 0 → Runs (fresh rate station (role_of n)) s ns a g a'
      → ran g.writes a' sh'
      ≡ ran (writes_run ns a) (numbers_all (said rate station n s ns a) ++ drop (width * writes_run ns a) a) (shown_in 0 (board_after rate station n s ns a) sh)
  ran-all z k = rw (k.answers, shown-is, z, k.term.board, k.term.answers, k.writes) refl

  ran-none : eqb (new_number rate station) 0 ≡ false → NotRun (new_of rate station (role_of n)).state a g a' → ran g.writes a' sh' ≡ ran 0 a sh
  ran-none e k = rw (k.answers, shown-is, e, k.writes) refl

  ran-by : (t : Bool) → eqb (new_number rate station) 0 ≡ t → ran g.writes a' sh' ≡ listen_run rate station n s ns a sh
  unfolding listen_run
  ran-by true e = rw e (let z = eqb-true (new_number rate station) 0 e in ran-all z (did.run z))
  ran-by false e = rw e (ran-none e (did.refused (eqb-false (new_number rate station) 0 e)))

  heard-so : Heard rate station n s ns a sh (ran g.writes a' sh')
  heard-so = record { run = ran-by _ refl; term = λ _. third rate station (role_of n) (writes_in s ns a) }

-- shown where the answer of `listen` has no number
pub heard : (rate station n : ℕ) (s : List Float) (ns a sh : List ℕ) (role : Role) (g : Listened) (a' sh' : List ℕ) (k : ℕ)
    → role ≡ role_of n → Listens rate station role s ns a g a' → k ≡ number_in (reply_in g.answer) → sh' ≡ shown_in k (plain_of g.state) sh
    → Heard rate station n s ns a sh (ran g.writes a' sh')
heard rate station n s ns a sh role g a' sh' k role-is did number_is shown-is =
    heard-so rate station n s ns a sh g a' sh'
    (subst (λ (x : Role). Listens rate station x s ns a g a') role-is did)
    (shown-is ∙ ap (λ (m : ℕ). shown_in m (plain_of g.state) sh) (number_is ∙ ap number_in did.answer ∙ new-number rate station role))
