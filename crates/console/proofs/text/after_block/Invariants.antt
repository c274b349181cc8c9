-- Before each byte those in front of it did what the whole does from the start on. Assumes nothing.
use Prim.Native.Nat.{◌≤◌}
use Rattle.tide.specs.DecoderRep.{most_count}
use Rattle.console.proofs.Blocks.{Going}
use Rattle.console.proofs.text.after_block.Given as goal

abbrev pub invariant-loop-c : goal.invariant-loop-c
invariant-loop-c l = (l.r.lines ≤ most_count) × Going l.initial.r l.s l.c-index l.r
