-- 1, then 42, then 7; else the sum. Assumes nothing.
use mathlib.Core.Path.{refl, sym, ◌∙◌}
use borrow.Author.Tests.{lt-ltb, le-ltb}
use Rattle.bell103.specs.Durations.{sum_reply}
use Rattle.refusal.specs.declared.Refusal.TheVariants.{Rate, TooManyBits, TooManyLengths}
use Rattle.bell103.proofs.Summing.{rate-high, sums_none, sums, too-long}
use Rattle.bell103.proofs.durations.exact_sum.Goals as goal

pub returns-then-lengths-gt-MOST_LENGTHS : goal.returns-then-lengths-gt-MOST_LENGTHS
unfolding sum_reply
returns-then-lengths-gt-MOST_LENGTHS c = sums_none _ _ TooManyLengths (rw (c.in_ok-check_rate.ensures.admitted, lt-ltb _ _ c.if-lengths-gt-MOST_LENGTHS.true) refl)

pub returns-then-any_above : goal.returns-then-any_above
unfolding sum_reply
returns-then-any_above c =
    sums_none _ _ TooManyBits
    (rw (c.in_ok-check_rate.ensures.admitted, le-ltb _ _ c.if-lengths-gt-MOST_LENGTHS.false, sym (c.any_above.ensures ∙ too-long _) ∙ c.if-any_above.true) refl)

pub add_all-requires : goal.add_all-requires
add_all-requires c =
    (rate-high _ c.in_ok-check_rate.ensures.admitted, c.if-lengths-gt-MOST_LENGTHS.false, sym (c.any_above.ensures ∙ too-long _) ∙ c.if-any_above.false)

pub returns : goal.returns
returns c =
    sums _ _ _ c.add_all.ensures c.in_ok-check_rate.ensures.admitted c.if-lengths-gt-MOST_LENGTHS.false (sym (c.any_above.ensures ∙ too-long _) ∙ c.if-any_above.false)
