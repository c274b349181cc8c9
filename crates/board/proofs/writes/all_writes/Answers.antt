-- `writes::all_writes` meets its contract. The invariant: what the rest does from here is what all of them do. Assumes nothing.
use Rattle.board.proofs.Running.{going_start, going_on, goes_through, in_reach}
use native.Mathlib.Omega.{arith}
use mathlib.Core.Path.{◌≡◌}
use Rattle.board.proofs.writes.all_writes.Goals as goal

pub loop-i-init : goal.loop-i-init
loop-i-init c = going_start _ _ _ _

pub one_write-place-requires : goal.one_write-place-requires
one_write-place-requires c =
    let s = c.args in
    let l = c.loop-i in
    let r = in_reach _ l.i s.lengths.now s.answers.now c.min-writes.ensures c.loop-i-test.true in
    (l.invariant.within, omega (arith, l.auto.answers, r.1))

pub loop-i-preserved : goal.loop-i-preserved
loop-i-preserved c =
    let s = c.args in
    let l = c.loop-i in
    let r = in_reach _ l.i s.lengths.now s.answers.now c.min-writes.ensures c.loop-i-test.true in
    going_on _ _ _ _ l.i l.place _ l.answers _ r.0 (omega (arith, l.auto.answers, r.1)) (rw r.2 c.one_write-place.ensures) l.invariant

pub returns : goal.returns
returns c =
    let l = c.loop-i in
    let n = c.min-writes in
    let e : l.i ≡ n.result = omega (arith, l.auto.i-end, c.loop-i-test.false) in
    goes_through _ _ _ _ n.result _ _ n.ensures (rw e at l.invariant)
