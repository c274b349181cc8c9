-- `writes::all_writes` meets its contract. The invariant: what the rest does from here is what all of them do. Assumes nothing.
use Rattle.board.proofs.Running.{Going}
use lib.ListN.{take}
use Rattle.board.specs.BoardRep.{plain_of}
use Rattle.board.proofs.writes.all_writes.Given as goal

abbrev pub invariant-loop-i : goal.invariant-loop-i
invariant-loop-i l = Going (plain_of l.initial.place.board) l.samples (take l.writes l.lengths) l.initial.answers l.i l.place l.answers
