use Rattle.framing.specs.Framing.{marks}
use Rattle.modulation.specs.Bits.{Joined}
use Rattle.modulation.proofs.bits.push_marks.Given as goal

abbrev pub invariant-loop : goal.invariant-loop
invariant-loop l = Joined l.head l.initial.bits l.waiting (marks l.counter) l.bits l.at
