-- Before each byte those in front of it did what the whole does from the start on. Assumes nothing.
use native.Mathlib.Omega.{arith}
use Rattle.console.proofs.Blocks.{going_on, going_end}
use Rattle.console.proofs.text.after_block.Goals as goal

pub loop-c-preserved : goal.loop-c-preserved
loop-c-preserved c = (omega arith, going_on _ _ _ _ _ c.loop-c.invariant.1 c.loop-c-test.true c.after_byte-r.ensures)

pub returns : goal.returns
returns c =
    let l = c.loop-c.invariant in
    going_end _ _ _ _ l.1 c.loop-c.auto.c-index-end c.loop-c-test.false l.0
