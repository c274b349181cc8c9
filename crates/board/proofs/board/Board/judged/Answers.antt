-- `Board::judged` meets its contract: the counts of a board together fit. Assumes nothing.
use mathlib.Core.Path.{◌∙◌, ap}
use Rattle.hexadecimal.specs.Hex.{total}
use Rattle.board.specs.BoardRep.{plain_of}
use Rattle.board.proofs.BoardRepLaws.{counts-fit}
use Rattle.board.proofs.board.Board.judged.Goals as goal

pub sum_of-requires : goal.sum_of-requires
sum_of-requires c =
    let s = c in
    rw c.counts.ensures (s.args.self.decoder.places, counts-fit s.args.self)

pub returns : goal.returns
unfolding plain_of
returns c = c.sum_of.ensures ∙ ap total c.counts.ensures
