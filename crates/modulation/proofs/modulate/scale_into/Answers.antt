-- `modulate::scale_into` meets its contract: each turn stores four samples more, and the last are stored singly. Assumes nothing.
use mathlib.Core.Path.{◌≡◌, sym, ap, ◌∙◌}
use native.Mathlib.Omega.{arith}
use lib.ListN.{length-set}
use lib.Ieee.{Float, nan, binary32, mul}
use Rattle.numeric.specs.Convert.{narrowed}
use Rattle.modulation.specs.Modulator.{scaled}
use Rattle.modulation.proofs.Slices.{into-four}
use Rattle.modulation.proofs.modulate.scale_into.Goals as goal

is-scaled : (a x v : Float) → v ≡ narrowed x → mul binary32 v a ≡ scaled a x
unfolding scaled
is-scaled a x v e = ap (λ (y : Float). mul binary32 y a) e

pub loop-i-preserved : goal.loop-i-preserved
loop-i-preserved c =
    let z = c in
    let l = c.loop-i in
    let e = c.narrow_four-n.ensures in
    let s = is-scaled z.args.a in (
      omega arith,
      simp length-set l.invariant.1,
      into-four (scaled z.args.a) z.args.xs.now l.out l.i nan _ _ _ _ (z.requires ∙ sym l.invariant.1) (omega arith)
          (s _ _ e.first) (s _ _ e.second) (s _ _ e.third) (s _ _ e.fourth)
          ∙ l.invariant.2,
    )
