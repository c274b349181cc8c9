-- Block and line keep their lengths. Assumes nothing.
use Rattle.std.proofs.Common.{◌≡◌, ◌≤◌, length}
use Rattle.replay.proofs.lines.run_all.Given as goal

abbrev pub invariant-loop : goal.invariant-loop
invariant-loop l = (length l.block ≡ 2049) × (length l.line ≡ 321) × (l.n ≤ 321)
