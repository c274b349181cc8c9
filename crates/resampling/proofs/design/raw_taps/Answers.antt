-- `design::raw_taps` meets its contract. The invariant: the taps before i are right. Assumes nothing.
use native.Mathlib.Omega.{arith}
use mathlib.Core.Path.{◌≡◌, sym, ◌∙◌, ap}
use Prim.Native.Nat.{ℕ}
use lib.ListN.{take}
use Rattle.numeric.specs.Fold.{tabulate}
use Rattle.resampling.specs.Design.{raw_tap, raw_taps}
use Rattle.resampling.proofs.design.raw_taps.Goals as goal

pub returns : goal.returns
unfolding raw_taps
returns c =
    let l = c.loop-i in
    let a = c.args in
    let e : l.i ≡ a.n = omega arith in
    ap (λ (k : ℕ). take k l.taps) (sym e) ∙ l.invariant.1 ∙ ap (tabulate (raw_tap a.fs)) (e ∙ c.requires.0)
