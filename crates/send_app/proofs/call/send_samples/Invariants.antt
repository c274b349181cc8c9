-- Each turn sends a block, until all are sent or one is not written. Assumes nothing.
use Rattle.std.proofs.Common.{◌-◌, ◌≤◌, length}
use Rattle.send_app.proofs.call.send_samples.Given as goal

abbrev pub invariant-loop-sent : goal.invariant-loop-sent
invariant-loop-sent l = (l.s.at ≤ length l.text) × (l.sent ≤ l.samples)

abbrev pub decreases-loop-sent : goal.decreases-loop-sent
decreases-loop-sent l = l.samples - l.sent
