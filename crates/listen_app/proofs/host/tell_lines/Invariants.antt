-- Each line counts one more. Assumes nothing.
use Prim.Native.Nat.{◌+◌, min}
use mathlib.Core.Path.{◌≡◌}
use Rattle.tide.specs.DecoderRep.{most_count}
use Rattle.listen_app.proofs.host.tell_lines.Given as goal

abbrev pub invariant-loop-answer : goal.invariant-loop-answer
invariant-loop-answer l = l.k ≡ min (l.lines + l.answer-index) most_count
