-- `feed::copy` meets its contract. The invariant: the output before i is the input's, and behind it as it came. Assumes nothing.
use Rattle.numeric.proofs.Loops.{over-turn}
use Rattle.resampling.proofs.FlowLaws.{copied_all}
use lib.Ieee.{nan}
use native.Mathlib.Omega.{arith}
use mathlib.Core.Path.{◌≡◌}
use lib.ListN.{length-set}
use borrow.Author.Rules.{rules}
use Rattle.resampling.proofs.feed.copy.Goals as goal

pub loop-i-preserved : goal.loop-i-preserved
loop-i-preserved c =
    let l = c.loop-i in
    (rw l.invariant.0 (over-turn _ _ l.i nan (search rules) (search rules)), simp length-set l.invariant.1)

pub returns : goal.returns
returns c =
    let l = c.loop-i in
    let s = c.min-n in
    let e : l.i ≡ s.result = omega arith in
    rw (l.invariant.0, e) (copied_all _ _ _ s.ensures)
