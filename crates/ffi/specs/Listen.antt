-- A list of a board's writes, from a fresh board on, for hosts in C. Assumes nothing.
use Rattle.std.specs.Prelude.{ℕ, ◌*◌, ◌≡◌, List, ◌++◌, eqb, take, drop, Float}
use Rattle.std.specs.Prelude.{if◌then◌else◌}
use Rattle.board.specs.Plain.{Plain, Answer, fresh, new_number, after_all, answers_all}
use Rattle.board.specs.Term.{Term3}
use Rattle.board.specs.Runs.{width, writes_of, writes_run, numbers_all}
use Rattle.calls.specs.Shown.{shown_in}
use Rattle.calls.specs.Roles.{role_of}

-- the writes that are run: as many as have a length, and room for their numbers
abbrev pub writes_in : List Float → List ℕ → List ℕ → List (List Float)
writes_in s ns answers = writes_of s (take (writes_run ns answers) ns)

-- the fresh plain board, the one after these writes, and what they were answered
module _ (rate station role : ℕ) (s : List Float) (ns answers : List ℕ) where
  abbrev pub board₀ : Plain
  board₀ = fresh rate station (role_of role)

  abbrev pub board_after : Plain
  board_after = after_all board₀ (writes_in s ns answers)

  abbrev pub said : List Answer
  said = answers_all board₀ (writes_in s ns answers)

-- what a list of writes leaves: how many were run, the lent answers, and the lent numbers of what is shown
pub record Run : Type 0 where
  pub writes : ℕ
  pub answers : List ℕ
  pub shown : List ℕ

abbrev pub ran : ℕ → List ℕ → List ℕ → Run
ran k answers shown = record { writes = k; answers = answers; shown = shown }

-- the answers' numbers stand in front, and what stands behind the last stays; what the board shows after the writes is shown. A rate or station
-- that `new` refuses runs no write and changes nothing
unfoldable pub listen_run : ℕ → ℕ → ℕ → List Float → List ℕ → List ℕ → List ℕ → Run
listen_run rate station role s ns answers shown =
    if eqb (new_number rate station) 0
    then
    ran (writes_run ns answers)
    (numbers_all (said rate station role s ns answers) ++ drop (width * writes_run ns answers) answers)
    (shown_in 0 (board_after rate station role s ns answers) shown)
    else ran 0 answers shown

-- what the function gives: an equation; and, where `new` refuses nothing, the third term of that board and those answers
pub record Heard (rate station role : ℕ) (s : List Float) (ns answers shown : List ℕ) (r : Run) : Type 0 where
  pub run : r ≡ listen_run rate station role s ns answers shown
  pub term :
      new_number rate station ≡ 0
      → Term3 (board₀ rate station role s ns answers) (writes_in s ns answers) (board_after rate station role s ns answers)
      (said rate station role s ns answers)
