-- `sample::push_known` meets its contract: a stored sample is the newest of the history. Assumes nothing.
use Prim.Native.Nat.{◌≤◌}
use mathlib.Core.Path.{◌∙◌}
use lib.ListN.{length}
use native.Mathlib.Omega.{arith}
use Rattle.resampling.specs.FlowRep.{flow_of}
use Rattle.resampling.proofs.Ring.{history-stored}
use Rattle.resampling.proofs.sample.push_known.Goals as goal

pub returns-clause-result_after : goal.returns-clause-result_after
unfolding flow_of
returns-clause-result_after c =
    let a = c.args in
    let p = c.requires in
    let r = c.ring_next.ensures in
    let s = c.slide.ensures in
    let l : a.n ≤ length a.hist.now = omega (arith, p.1, p.2) in
    s.by_index _ _ ∙ rw (r.0, history-stored _ _ a.x _ p.0 l)
