-- The rest of the word says what the whole says. Assumes nothing.
use Rattle.console.proofs.Digits.{digit-on, digit-none, digits-end}
use Rattle.console.specs.Words.{up_to_most}
use native.Mathlib.Omega.{arith}
use mathlib.Core.Path.{sym, ◌∙◌}
use Rattle.console.proofs.words.decimal_up_to.Goals as goal

pub loop-c-preserved : goal.loop-c-preserved
loop-c-preserved c =
    let d = c.in_ok-value.ensures in
    (d.within, sym (digit-on _ _ _ _ c.loop-c-test.true d.value d.within) ∙ c.loop-c.invariant.1)

pub returns-in_err-value-clause-value : goal.returns-in_err-value-clause-value
unfolding up_to_most
returns-in_err-value-clause-value c =
    rw c.from_residual.ensures (sym (digit-none _ _ _ _ c.loop-c-test.true c.in_err-value.ensures.value (omega arith)) ∙ c.loop-c.invariant.1)

pub returns : goal.returns
unfolding up_to_most
returns c =
    let l = c.loop-c.invariant in
    record { value = sym (digits-end _ _ _ _ c.loop-c.auto.c-index-end c.loop-c-test.false) ∙ l.1; within = l.0 }
