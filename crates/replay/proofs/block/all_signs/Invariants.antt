-- The block keeps its length and is filled no further than that. Assumes nothing.
use Rattle.std.proofs.Common.{◌≡◌, ◌≤◌, length}
use Rattle.replay.proofs.block.all_signs.Given as goal

abbrev pub invariant-loop-c : goal.invariant-loop-c
invariant-loop-c l = (l.n ≤ length l.initial.block) × (length l.block ≡ length l.initial.block)
