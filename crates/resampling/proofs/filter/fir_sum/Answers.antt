-- `filter::fir_sum` meets its contract. The invariant: the rest of the sum, from where the loop stands, is the whole sum. Assumes nothing.
use native.Mathlib.Numerals.{unary_clauses}
use Rattle.resampling.proofs.Ring.{sum-turn, sum_done}
use native.Mathlib.Omega.{arith}
use mathlib.Core.Path.{sym, ◌∙◌}
use Prim.Native.Nat.{◌<◌, ◌≤◌}
use Rattle.resampling.specs.Filter.{filtered}
use Rattle.resampling.proofs.filter.fir_sum.Goals as goal

pub loop-i-init : goal.loop-i-init
unfolding filtered
loop-i-init c = (simp unary_clauses, c.requires.within)

pub loop-i-preserved : goal.loop-i-preserved
loop-i-preserved c =
    let l = c.loop-i in
    let p = c.requires in
    let t : l.i < c.args.n = omega arith in
    let r = c.ring_back-idx.ensures in
    (rw r.0 (sym (sum-turn _ _ _ _ _ _ (omega (arith, p.high, p.taps_long)) t) ∙ l.invariant.0), r.1)

pub returns : goal.returns
returns c =
    let p = c.requires in
    let t : c.args.n ≤ c.loop-i.i = omega arith in
    sym (sum_done _ _ _ _ _ _ (omega (arith, p.high, p.taps_long)) t) ∙ c.loop-i.invariant.0
