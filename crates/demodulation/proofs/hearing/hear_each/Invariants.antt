-- `hear_each` meets its contract. The invariant: from where the loop stands the rest is heard as the whole is from the start. Assumes nothing.
use Rattle.demodulation.proofs.Turns.{Going}
use Rattle.demodulation.specs.DemodRep.{demodulator}
use Rattle.demodulation.specs.Summing.{Summed}
use Rattle.demodulation.specs.Waves.{Waved}
use Rattle.demodulation.proofs.hearing.hear_each.Given as goal

abbrev pub invariant-loop-s : goal.invariant-loop-s
invariant-loop-s l =
    Going l.samples (demodulator l.initial.rings l.initial.core) l.initial.codes l.codes (demodulator l.rings l.core) l.count l.s-index
    × Summed l.core.corr.pos l.rings l.sums
    × Waved l.core.corr l.w
