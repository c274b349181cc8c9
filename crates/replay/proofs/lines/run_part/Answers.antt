-- Block and line keep their lengths; each turn reads on. Assumes nothing.
use Rattle.std.proofs.Common.{ℕ, ◌≤◌, sym, ◌∙◌, subst, arith, length-take-le}
use Rattle.replay.proofs.lines.run_part.Goals as goal

pub slice_bounds-run_ended-end-in-loop-at : goal.slice_bounds-run_ended-end-in-loop-at
slice_bounds-run_ended-end-in-loop-at c =
    let s = c.scan-s in
    let r = c.runnable-end in
    sym (length-take-le _ _ (subst (λ (k : ℕ). r.result ≤ k) (sym s.ensures.3) (omega (arith, r.ensures, s.ensures.2))))

pub loop-at-preserved : goal.loop-at-preserved
loop-at-preserved c =
    let s = c.scan-s in
    let e = c.run_ended in
    let i = c.loop-at.invariant in
    (e.ensures, s.ensures.3 ∙ i.1, omega (arith, c.left-n.ensures, s.ensures.2, i.1), s.ensures.1)
