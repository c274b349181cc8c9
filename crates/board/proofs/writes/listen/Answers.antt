-- `writes::listen` meets its contract: the third term of the list of writes. Assumes nothing.
use Rattle.board.proofs.Listening.{listens-refused, listens-run}
use Rattle.board.proofs.writes.listen.Goals as goal

pub returns-in-Err : goal.returns-in-Err
returns-in-Err c =
    let m = c.new-made in
    listens-refused _ _ _ _ _ _ m.result m.ensures _ c.in-Err.is

pub returns-in-Ok : goal.returns-in-Ok
returns-in-Ok c =
    let m = c.new-made in
    listens-run _ _ _ _ _ _ m.result m.ensures c.in-Ok.is _ _ c.all_writes.ensures
