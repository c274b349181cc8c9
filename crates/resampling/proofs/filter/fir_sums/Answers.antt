-- `filter::fir_sums` meets its contract. The invariant: the rest of each sum, from where the loop stands, is the whole sum; the second is one tap on. Assumes nothing.
use native.Mathlib.Numerals.{unary_clauses}
use Rattle.resampling.proofs.Ring.{sum-turn, sum_done, sum-later}
use native.Mathlib.Omega.{arith}
use mathlib.Core.Path.{◌≡◌, sym, ◌∙◌}
use Prim.Native.Nat.{◌+◌, ◌-◌, ◌<◌, ◌≤◌}
use lib.ListN.{length}
use Rattle.resampling.specs.FilterRep.{ring_back}
use Rattle.resampling.specs.Filter.{filtered}
use Rattle.resampling.proofs.filter.fir_sums.Goals as goal

pub loop-i-init : goal.loop-i-init
unfolding filtered
loop-i-init c =
    let p = c.requires in
    let a = c.args in
    let fits : a.n ≤ length a.taps.now = omega (arith, p.high, p.taps_long) in
    (simp unary_clauses, sum-later _ _ _ _ _ fits (omega (arith, p.within)), p.within)

pub loop-i-preserved : goal.loop-i-preserved
loop-i-preserved c =
    let l = c.loop-i in
    let a = c.args in
    let p = c.requires in
    let t : l.i + 1 < a.n = omega arith in
    let i : l.i < a.n = omega (arith, t) in
    let fits : a.n ≤ length a.taps.now = omega (arith, p.high, p.taps_long) in
    let r = c.ring_back-idx.ensures in (
      rw r.0 (sym (sum-turn _ _ _ _ _ _ fits i) ∙ l.invariant.0),
      rw r.0 (sym (sum-turn _ _ _ _ _ _ fits t) ∙ l.invariant.1),
      r.1,
    )

pub returns : goal.returns
returns c =
    let l = c.loop-i in
    let a = c.args in
    let p = c.requires in
    let e : l.i ≡ a.n - 1 = omega arith in
    let i : l.i < a.n = omega (arith, p.within) in
    let d : a.n ≤ l.i + 1 = omega arith in
    let fits : a.n ≤ length a.taps.now = omega (arith, p.high, p.taps_long) in
    record {
      first_value = rw (← e) (sym (sum_done _ _ _ _ (ring_back a.n l.idx) _ fits d) ∙ sym (sum-turn _ _ _ _ _ _ fits i) ∙ l.invariant.0);
      second_value = sym (sum_done _ _ _ _ _ _ fits d) ∙ l.invariant.1;
    }
