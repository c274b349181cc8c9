-- `table_tx::hold_tone` meets its contract: each turn stores one sample more. Assumes nothing.
use native.Mathlib.Omega.{arith}
use Rattle.modulation.proofs.TableRuns.{holds-none, holds-more}
use Rattle.modulation.proofs.TableLaws.{stays}
use Rattle.modulation.proofs.table_tx.hold_tone.Goals as goal

pub loop-i-init : goal.loop-i-init
loop-i-init c = holds-none _ _ _ _ c.requires.1

pub loop-i-preserved : goal.loop-i-preserved
loop-i-preserved c =
    let l = c.loop-i in
    let v = stays _ _ l.invariant.at c.entry.ensures in
    holds-more _ _ _ _ _ _ _ _ _ l.invariant (omega arith) (omega (arith, l.invariant.long)) v c.turned-at.ensures
