-- What the board answers, told; there is room for each line's answer. Assumes nothing.
use mathlib.Core.Path.{refl, sym}
use lib.Seq.{length-take-le}
use lib.Dec.{lit≤}
use Rattle.listen_app.proofs.HostLaws.{all_told}
use Rattle.listen_app.proofs.Hosting.{writes-refused, writes-heard}
use Rattle.listen_app.proofs.host.Host.write.Goals as goal

pub slice_bounds-verdicts-end : goal.slice_bounds-verdicts-end
slice_bounds-verdicts-end c =
    let w = c in
    let s = w in
    let a = all_told s.args.self.board _ _ _ _ (lit≤ tt) w.write_into-w.ensures in
    rw c.in-Ok.is at a

pub returns-in-Err : goal.returns-in-Err
returns-in-Err c =
    let w = c in
    let s = w in
    let m = c.missed.ensures in
    writes-refused _ _ _ w.write_into-w.ensures.writes _ _ c.in-Err.is m.0 c.from.ensures

pub slice_bounds-heard-end : goal.slice_bounds-heard-end
slice_bounds-heard-end c =
    let a = all_told c.args.self.board _ _ _ _ (lit≤ tt) c.write_into-w.ensures in
    sym (length-take-le _ _ (rw c.in-Ok.is at a))

pub returns-in-Ok : goal.returns-in-Ok
returns-in-Ok c =
    let h = c.heard.ensures in
    let a = all_told c.args.self.board _ _ _ _ (lit≤ tt) c.write_into-w.ensures in
    writes-heard _ _ _ c.write_into-w.ensures.writes _ _ _ c.in-Ok.is (length-take-le _ _ (rw c.in-Ok.is at a)) h.0 refl
