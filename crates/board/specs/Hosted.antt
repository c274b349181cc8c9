-- The third term for a host that calls `new` and `write` itself: it follows from what the calls ensure. Assumes nothing.
use Rattle.board.specs.declared.board.Summary.{Summary}
use Rattle.std.specs.Prelude.{◌≡◌, List, [], ◌∷◌, Float}
use Rattle.board.specs.Plain.{Answer, after_all, answers_all}
use Rattle.board.specs.BoardRep.{plain_of, answer_of, Writes}
use Rattle.board.specs.declared.board.Board.{Board}
use Rattle.refusal.specs.declared.Answered.{Answered}

-- ---- writes, one after the other: each on the board that the one before gave, with the answers given; `end` is the board after the last
abbrev pub Calls : Board → List (List Float) → Board → List Answer → Type 0
Calls b [] end said = (end ≡ b) × (said ≡ [])
Calls b (s ∷ ws) end [] = ⊥
Calls b (s ∷ ws) end (a ∷ said) = (r : Answered Board Summary) × Writes b s r × (answer_of r.answer ≡ a) × Calls r.state ws end said

-- they did what they do to the plain board
pub record Follows (b : Board) (ws : List (List Float)) (end : Board) (said : List Answer) : Type 0 where
  pub board : plain_of end ≡ after_all (plain_of b) ws
  pub answers : said ≡ answers_all (plain_of b) ws
