-- `feed::feed_one` meets its contract: the sample goes in, and then its outputs come out. Assumes nothing.
use mathlib.Core.Path.{sym, ◌∙◌}
use mathlib.Core.List.{[]}
use Rattle.resampling.proofs.Running.{alone, drained-from}
use Rattle.resampling.proofs.feed.feed_one.Goals as goal

pub returns-clause-all_fed : goal.returns-clause-all_fed
returns-clause-all_fed c =
    let a = c.args in
    let p = c.push_one-p.ensures in
    let d = c.drain.ensures in
    drained-from _ _ _ _ _ _ _ (p.one_pushed a.step) (d.all_drained _ _ _) ∙ sym (alone _ _ _ _ _ [])
