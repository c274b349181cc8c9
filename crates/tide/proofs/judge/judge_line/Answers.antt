-- A good line has its reading; what any other says of the water is not read. Assumes nothing.
use mathlib.Core.Path.{sym}
use Rattle.tide.specs.Judge.{judge}
use Rattle.tide.proofs.Checks.{good-line, settle-bad}
use Rattle.tide.proofs.judge.judge_line.Goals as goal

pub returns-in-Err : goal.returns-in-Err
unfolding judge
returns-in-Err c = rw (c.from.ensures, ← c.in-Err.ensures) (settle-bad _ _ _)

pub new-requires : goal.new-requires
new-requires c = (good-line c.args.mine c.args.s.now c.args.more (sym c.in_default.ensures)).0

pub reading_of-requires : goal.reading_of-requires
reading_of-requires c = rw c.new.ensures (good-line c.args.mine c.args.s.now c.args.more (sym c.in_default.ensures)).1

pub returns : goal.returns
unfolding judge
returns c =
    let g = rw c.new.ensures at c.reading_of.ensures in
    rw (← c.in_default.ensures, ← g) c.settled.ensures
