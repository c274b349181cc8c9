-- `table_tx::hold_tone` meets its contract: each turn stores one sample more. Assumes nothing.
use Rattle.modulation.specs.Keying.{Holds}
use Rattle.modulation.proofs.table_tx.hold_tone.Given as goal

abbrev pub invariant-loop-i : goal.invariant-loop-i
invariant-loop-i l = Holds l.hop l.place l.from l.i l.initial.out l.out l.at
