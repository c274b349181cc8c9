-- The decoder judges what was heard, and the bytes are counted. Assumes nothing.
use mathlib.Core.Path.{refl}
use Rattle.board.proofs.Writing.{few-judged, judges-all}
use Rattle.board.proofs.board.Board.judge_all.Goals as goal

pub invariant_of-state : goal.invariant_of-state
invariant_of-state c =
    let f = c.feed-f in
    record { few = few-judged _ _ _ _ f.result _ c.requires f.ensures }

pub returns : goal.returns
returns c =
    let f = c.feed-f in
    judges-all _ _ _ _ f.result _ _ _ refl refl c.requires f.ensures c.tally_of-tally.ensures
