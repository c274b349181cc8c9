-- A list of writes as the code takes and answers it, and the third term of it. Assumes nothing.
use Rattle.std.specs.Prelude.{ℕ, ◌+◌, ◌*◌, ◌/◌, ◌≤◌, min, ◌≡◌, List, [], ◌∷◌, ◌++◌, length, take, drop, Float, Ok}
use Rattle.refusal.specs.Refusals.{reply_in}
use Rattle.bell103.specs.declared.Role.{Role}
use Rattle.board.specs.Plain.{Plain, Answer, refused, heard, fresh, after, answer, after_all, answers_all, new_number, new_of}
use Rattle.board.specs.Term.{Term3}
use Rattle.board.specs.BoardRep.{plain_of}
use Rattle.board.specs.declared.board.Board.{Board}
use Rattle.board.specs.declared.writes.Place.{Place}
use Rattle.board.specs.declared.writes.Listened.{Listened}

-- the writes that lengths cut samples into: the next n samples, or what is left of them
unfoldable pub writes_of : List Float → List ℕ → List (List Float)
writes_of s [] = []
writes_of s (n ∷ ns) = take n s ∷ writes_of (drop n s) ns

-- how many numbers an answer has
abbrev pub width : ℕ
width = 5

-- they are: the refusal, 0 where there is none; bytes heard, lines ended, the last line's answer and the bad stops, 0 where it is refused
abbrev pub numbers_of : Answer → List ℕ
numbers_of (refused n) = n ∷ 0 ∷ 0 ∷ 0 ∷ 0 ∷ []
numbers_of (heard x) = 0 ∷ x.bytes ∷ x.lines ∷ x.last ∷ x.bad_stops ∷ []

unfoldable pub numbers_all : List Answer → List ℕ
numbers_all [] = []
numbers_all (a ∷ said) = numbers_of a ++ numbers_all said

-- an answer's numbers at place `at` of a list, all else as it was
abbrev pub put_at : ℕ → List ℕ → List ℕ → List ℕ
put_at at numbers before = take at before ++ (numbers ++ drop (at + width) before)

-- how many writes are run: as many as have a length, and room for its numbers
abbrev pub writes_run : List ℕ → List ℕ → ℕ
writes_run lengths answers = min (length lengths) (length answers / width)

-- ---- in the code
-- the board, and how many of the samples are behind it
pub record Within (p : Place) (s : List Float) : Type 0 where
  pub read : p.read ≤ length s

-- a write of n samples leads from p to q, and its answer's numbers stand at `at` of the answers
pub record Stepped (p q : Place) (n : ℕ) (s : List Float) (at : ℕ) (before after' : List ℕ) : Type 0 where
  pub state : plain_of q.board ≡ after (plain_of p.board) (take n (drop p.read s))
  pub left : drop q.read s ≡ drop n (drop p.read s)
  pub answers : after' ≡ put_at at (numbers_of (answer (plain_of p.board) (take n (drop p.read s)))) before
  pub within : Within q s

-- the writes of a list, from the board b₀ on
pub record RunFrom (b₀ : Board) (s : List Float) (ns before : List ℕ) (r : Listened) (after' : List ℕ) : Type 0 where
  pub answer : r.answer ≡ Ok tt
  pub writes : r.writes ≡ writes_run ns before
  pub state : plain_of r.state ≡ after_all (plain_of b₀) (writes_of s (take r.writes ns))
  pub answers : after' ≡ numbers_all (answers_all (plain_of b₀) (writes_of s (take r.writes ns))) ++ drop (width * r.writes) before

-- ---- `listen`
-- the third term of the writes that are run, with the numbers of the answers given in front of what stood in the answers
pub record Runs (b₀ : Plain) (s : List Float) (ns before : List ℕ) (r : Listened) (after' : List ℕ) : Type 0 where
  pub writes : r.writes ≡ writes_run ns before
  pub said : List Answer
  pub term : Term3 b₀ (writes_of s (take r.writes ns)) (plain_of r.state) said
  pub answers : after' ≡ numbers_all said ++ drop (width * r.writes) before

-- nothing is run, the state is what `new` gives, and the answers are as they were
pub record NotRun (b₀ : Plain) (before : List ℕ) (r : Listened) (after' : List ℕ) : Type 0 where
  pub writes : r.writes ≡ 0
  pub state : plain_of r.state ≡ b₀
  pub answers : after' ≡ before

-- `new`, and where it refuses nothing the list of writes
pub record Listens (rate station : ℕ) (role : Role) (s : List Float) (ns before : List ℕ) (r : Listened) (after' : List ℕ) : Type 0 where
  pub answer : reply_in r.answer ≡ (new_of rate station role).answer
  pub refused : (new_number rate station ≡ 0 → ⊥) → NotRun (new_of rate station role).state before r after'
  pub run : new_number rate station ≡ 0 → Runs (fresh rate station role) s ns before r after'
