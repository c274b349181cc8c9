-- What was read stands within the page. The measure is what is left of the page. Assumes nothing.
use Rattle.std.proofs.Common.{◌-◌, ◌≤◌, length}
use Rattle.settings.proofs.page.read_page.Given as goal

abbrev pub invariant-loop-n : goal.invariant-loop-n
invariant-loop-n g l = l.n ≤ length l.page

abbrev pub decreases-loop-n : goal.decreases-loop-n
decreases-loop-n g l = length l.page - l.n
