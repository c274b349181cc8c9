-- `numeric::root::root` meets its contract: the code's operations are the definition's, and a NaN's root is a NaN. Assumes nothing.
use Rattle.std.proofs.Common.{◌≡◌, T, sym, ap, ◌∙◌, subst, arith}
use lib.Ieee.{Float, nan}
use lib.Ieee.Compare.{differs_from_itself}
use Rattle.numeric.specs.Root.{root_of, improved, guess, squares}
use Rattle.numeric.proofs.RootLaws.{squares-lt, improved-nan, improved-more, improved-end}
use Rattle.numeric.proofs.root.root.Goals as goal

pub returns-then-v : goal.returns-then-v
unfolding root_of
returns-then-v c = rw c.if-v.true

pub returns-then-v-2 : goal.returns-then-v-2
unfolding root_of
returns-then-v-2 c =
    let e : squares c.args.a c.args.b ≡ nan = differs_from_itself _ (subst T (sym c.if-v-2.true) tt) in
    rw c.if-v.false (e ∙ sym improved-nan ∙ ap (λ (v : Float). improved 5 v (guess v)) (sym e))

pub first_guess-g-requires : goal.first_guess-g-requires
first_guess-g-requires c = (c.if-v-2.false, squares-lt _ _ c.if-v-2.false)

pub loop-i-preserved : goal.loop-i-preserved
loop-i-preserved c = improved-more c.loop-i.i _ c.loop-i.g (omega arith) ∙ c.loop-i.invariant

pub returns : goal.returns
unfolding root_of
returns c = rw c.if-v.false (sym (improved-end c.loop-i.i _ c.loop-i.g (omega arith)) ∙ c.loop-i.invariant)
