-- From place i on the byte stands as far as the whole says. Assumes nothing.
use Rattle.pool.proofs.Texts.{place_found, place-on, place_end}
use native.Mathlib.Omega.{arith}
use Rattle.pool.proofs.fields.place_of.Goals as goal

pub returns-then-s-i : goal.returns-then-s-i
returns-then-s-i c = (omega (arith, c.loop-i.invariant, place_found c.args.c c.args.s.now c.loop-i.i c.loop-i-test.true c.if-s-i.true), omega arith)

pub loop-i-preserved : goal.loop-i-preserved
loop-i-preserved c = omega (arith, c.loop-i.invariant, place-on c.args.c c.args.s.now c.loop-i.i c.loop-i-test.true c.if-s-i.false)

pub returns : goal.returns
returns c = (omega (arith, c.loop-i.invariant, place_end c.args.c c.args.s.now c.loop-i.i c.loop-i-test.false), omega arith)
