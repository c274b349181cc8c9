-- Two sums above 0.0 have the guesses and the steps of `root`, each its own; else each root is what `root` ensures. Assumes nothing.
use Rattle.std.proofs.Common.{sym, refl, ◌∙◌, arith}
use Rattle.numeric.proofs.RootLaws.{guess-asks, root-above, improved-more, improved-end}
use Rattle.numeric.proofs.root.roots.Goals as goal

pub first_guess-g-requires : goal.first_guess-g-requires
first_guess-g-requires c = guess-asks _ _ c.if-u.true

pub first_guess-h-requires : goal.first_guess-h-requires
first_guess-h-requires c = guess-asks _ _ c.if-w.true

pub loop-i-preserved : goal.loop-i-preserved
loop-i-preserved c =
    let l = c.loop-i in
    (improved-more l.i _ l.g (omega arith) ∙ l.invariant.0, improved-more l.i _ l.h (omega arith) ∙ l.invariant.1)

pub returns-then-w : goal.returns-then-w
returns-then-w c =
    let l = c.loop-i in (
      sym (improved-end l.i _ l.g (omega arith)) ∙ l.invariant.0 ∙ root-above _ _ c.if-u.true _ refl,
      sym (improved-end l.i _ l.h (omega arith)) ∙ l.invariant.1 ∙ root-above _ _ c.if-w.true _ refl,
    )
