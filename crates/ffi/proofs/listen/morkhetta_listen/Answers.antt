-- `listen::morkhetta_listen` meets its contract: what `listen` ensures, and what is shown of its state. Assumes nothing.
use Rattle.ffi.proofs.Showing.{heard}
use Rattle.ffi.proofs.listen.morkhetta_listen.Goals as goal

pub returns : goal.returns
returns c =
    let did = c.listen-heard in
    heard _ _ c.args.role _ _ _ c.args.shown.now _ did.result _ _ _ c.role_of.ensures did.ensures c.number_in.ensures c.put_board.ensures
