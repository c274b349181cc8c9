-- `counts::sum_of` meets its contract. The invariant: the sum so far and that of the rest are the whole. Assumes nothing.
use Rattle.hexadecimal.proofs.ByPlace.{total-step, total-end}
use native.Mathlib.Omega.{arith}
use Rattle.board.proofs.counts.sum_of.Goals as goal

pub overflow_add-sum : goal.overflow_add-sum
overflow_add-sum c =
    let l = c.loop-i in
    let s = c in
    omega (arith, l.invariant, s.requires.1, total-step s.args.counts l.i (omega (arith, c.loop-i-test.true, s.requires.0)))

pub loop-i-preserved : goal.loop-i-preserved
loop-i-preserved c =
    let l = c.loop-i in
    let s = c in
    omega (arith, l.invariant, total-step s.args.counts l.i (omega (arith, c.loop-i-test.true, s.requires.0)))

pub returns : goal.returns
returns c =
    let l = c.loop-i in
    let s = c in
    omega (arith, l.invariant, total-end s.args.counts l.i (omega (arith, c.loop-i-test.false, l.auto.i-end, s.requires.0)))
