-- Before place i the bytes so far, and those from i on, say what the whole says. Assumes nothing.
use Rattle.store.proofs.Passing.{Going}
use Rattle.store.proofs.reading.pass_all.Given as goal

abbrev pub invariant-loop-i : goal.invariant-loop-i
invariant-loop-i l = Going l.s l.f l.i
