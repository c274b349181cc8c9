-- From the first state on, to the end. Assumes nothing.
use mathlib.Core.Path.{refl}
use native.Mathlib.Omega.{arith}
use Rattle.listen_app.proofs.Hearing.{begun, heard-from, heard_all}
use Rattle.listen_app.proofs.session.hear_all.Goals as goal

pub read_all-r-requires : goal.read_all-r-requires
read_all-r-requires g c =
    let n = c.new-2.ensures.0 in
    record { reader = record { room = refl; few = omega (arith, n) } }

pub hear_last-host-requires : goal.hear_last-host-requires
hear_last-host-requires g c = c.read_all-r.ensures.sound

pub returns : goal.returns
returns g c =
    let r = c in
    let e = r.new-2 in
    let h = r.new in
    heard_all _ _ _
    (heard-from (begun (record { host = h.result; reader = e.result; block = _ }) _ _ e.ensures.0 e.ensures.1 h.ensures.same) r.read_all-r.ensures)
    c.hear_last-host.ensures
    c.finish-end.ensures
