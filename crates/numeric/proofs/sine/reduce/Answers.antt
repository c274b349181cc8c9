-- `numeric::sine::reduce` meets its contract. The loop's invariant: what is left to do gives what the whole gives. Assumes nothing.
use Rattle.std.proofs.Common.{◌≡◌, ℕ, ◌+◌, ◌-◌, ◌≤◌, sym, ap, ◌∙◌, arith}
use Rattle.numeric.specs.F64.{◌⊖◌, tau}
use Rattle.numeric.specs.Sine.{reduced}
use Rattle.numeric.proofs.SineLaws.{reduced-stop, reduced-end, reduced-more}
use Rattle.numeric.proofs.sine.reduce.Goals as goal

less : (i : ℕ) → 64 - i - 1 ≡ 64 - (i + 1)
less i = omega arith

none : (i : ℕ) → 64 ≤ i → 64 - i ≡ 0
none i h = omega arith

pub loop-i-preserved : goal.loop-i-preserved
loop-i-preserved c =
    let l = c.loop-i in
    l.invariant ∙ reduced-more (64 - l.i) l.y (omega arith) c.if-y.true ∙ ap (λ (n : ℕ). reduced n (l.y ⊖ tau)) (less l.i)

pub returns-else-y : goal.returns-else-y
returns-else-y c =
    let l = c.loop-i in
    sym (l.invariant ∙ reduced-stop (64 - l.i) l.y c.if-y.false)

pub returns-then-y-2 : goal.returns-then-y-2
returns-then-y-2 c =
    let l = c.loop-i in
    sym (l.invariant ∙ ap (λ (n : ℕ). reduced n l.y) (none l.i (omega arith)) ∙ reduced-end l.y c.if-y-2.true)

pub returns-else-y-2 : goal.returns-else-y-2
returns-else-y-2 c =
    let l = c.loop-i in
    sym (l.invariant ∙ reduced-stop (64 - l.i) l.y c.if-y-2.false)
