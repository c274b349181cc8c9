-- `numbers::newest_first` meets its contract. The invariant: what is copied, and then the rest of the ring, is the history. Assumes nothing.
use Rattle.resampling.specs.Design.{most_taps}
use Rattle.resampling.proofs.NumberLaws.{newest-start, newest-step, newest-end}
use native.Mathlib.Omega.{arith}
use lib.Ieee.{Float}
use Rattle.numeric.specs.F64.{zero64}
use lib.ListN.{length-set, length-replicate}
use mathlib.Core.Path.{◌≡◌, sym, ◌∙◌}
use Prim.Native.Nat.{◌<◌}
use Rattle.resampling.proofs.numbers.newest_first.Goals as goal

pub loop-i-init : goal.loop-i-init
loop-i-init c = (rw c.filled-a.ensures (length-replicate {A = Float} most_taps zero64), c.requires.1, newest-start c.args.n c.args.pos c.args.ring)

pub loop-i-preserved : goal.loop-i-preserved
loop-i-preserved c =
    let l = c.loop-i in
    let p = c.requires in
    let t : l.i < c.args.n = omega arith in
    let r = c.ring_back-idx.ensures in
    (rw length-set l.invariant.0, (λ h. r.1), rw r.0 (newest-step c.args.n l.idx l.i c.args.ring l.a t (omega (arith, l.invariant.0, p.0))) ∙ l.invariant.2)

pub returns : goal.returns
returns c =
    let l = c.loop-i in
    let e : l.i ≡ c.args.n = omega arith in
    sym (newest-end c.args.n l.idx l.i c.args.ring l.a e) ∙ l.invariant.2
