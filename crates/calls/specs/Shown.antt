-- What a board shows, as numbers. Assumes nothing.
use Rattle.std.specs.Prelude.{ℕ, ◌&&◌, List, [], ◌∷◌, ◌++◌, eqb, leb, length, drop}
use Rattle.std.specs.Prelude.{if◌then◌else◌}
use Rattle.tide.specs.Frame.{bits_of}
use Rattle.tide.specs.Judge.{Shown, none, shows}
use Rattle.board.specs.Plain.{Plain}

-- what a board shows, as three numbers: 1, its water minute and the sixteen bits of its level; or three times 0
abbrev pub shown_numbers : Shown → List ℕ
shown_numbers none = 0 ∷ 0 ∷ 0 ∷ []
shown_numbers (shows r) = 1 ∷ r.water ∷ bits_of r.level ∷ []

-- and its twelve counts behind them: of the answers 0, 11 to 20 and 34
abbrev pub board_numbers : Plain → List ℕ
board_numbers b = shown_numbers b.reading ++ b.counts

-- they go to the front of the lent numbers, if `new` refused nothing and there is room for fifteen
abbrev pub shown_in : ℕ → Plain → List ℕ → List ℕ
shown_in refusal b shown = if eqb refusal 0 && leb 15 (length shown) then board_numbers b ++ drop 15 shown else shown
