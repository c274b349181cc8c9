-- `state::put_numbers` meets its contract: the parts, one behind the other. Assumes nothing.
use Rattle.snapshot.proofs.StateCalls.{resampler-put}
use Rattle.resampling.specs.ResampleRep.{state_of}
use lib.ListN.{length}
use mathlib.Core.Path.{◌≡◌}
use borrow.Author.Rules.{rules}
use Rattle.snapshot.proofs.state.put_numbers.Goals as goal

pub returns : goal.returns
returns c =
    let t = c.tap_numbers-taps in
    let h = c.history_numbers-history in
    let w = c.window_numbers-window in
    let t-long : length t.result ≡ 373 = search rules in
    let h-long : length h.result ≡ 373 = search rules in
    resampler-put (state_of c.args.r) _ _ _ _ _ _ _ t.ensures h.ensures w.ensures t-long h-long c.put.ensures c.put-2.ensures c.put-3.ensures
