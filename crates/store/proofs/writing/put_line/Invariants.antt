-- After each turn exactly the first bytes of the line are stored, front to back. Assumes nothing.
use mathlib.Core.Path.{◌≡◌}
use lib.Seq.{paste}
use Rattle.store.proofs.writing.put_line.Given as goal

abbrev pub invariant-loop-k : goal.invariant-loop-k
invariant-loop-k l = l.buffer ≡ paste l.initial.buffer l.at l.line l.k
