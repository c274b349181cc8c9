-- `writes::one_write` meets its contract: the part that it lends is the next samples. Assumes nothing.
use Rattle.board.proofs.Running.{steps}
use Rattle.board.proofs.writes.one_write.Goals as goal

pub returns : goal.returns
returns c =
    let s = c in
    let pe = c.part_end-end in
    let w = c.write-w in
    let t = c.numbers_of in
    steps s.args.p _ _ _ w.result t.result _ _ _ pe.ensures.0 (pe.ensures.2 s.requires.0.read) w.ensures t.ensures c.tell.ensures
