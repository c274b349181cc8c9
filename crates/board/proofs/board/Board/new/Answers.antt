-- `Board::new` meets its contract: the listener's answer, then the station. Assumes nothing.
use mathlib.Core.Path.{refl}
use Rattle.board.proofs.Writing.{few-made, makes}
use Rattle.board.proofs.board.Board.new.Goals as goal

pub invariant_of-result : goal.invariant_of-result
invariant_of-result c = record { few = few-made _ _ _ c.new-made.result _ c.new-made.ensures c.new.ensures }

pub returns : goal.returns
returns c = rw c.check_station.ensures (makes _ _ _ c.new-made.result _ c.new-made.ensures c.new.ensures _ refl refl)
