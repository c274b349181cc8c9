-- From place i on the lengths make of the sum what the whole list makes of nothing; and the sum has room. Assumes nothing.
use mathlib.Core.Path.{refl, ap, ◌∙◌}
use native.Mathlib.Omega.{arith}
use Rattle.bell103.specs.Durations.{joined, carried}
use Rattle.bell103.proofs.Summing.{exact-small, joined_small, carry-on, carry-end, none-too-long}
use Rattle.bell103.proofs.durations.add_all.Goals as goal

pub loop-n-init : goal.loop-n-init
unfolding carried
loop-n-init c = (omega arith, omega arith, refl)

pub exact_of-requires : goal.exact_of-requires
exact_of-requires c =
    (c.requires.0, none-too-long _ _ c.requires.2 (omega arith))

pub join-sum-requires : goal.join-sum-requires
join-sum-requires c =
    let l = c.loop-n.invariant in
    let e = exact-small _ _ c.requires.0 (none-too-long _ _ c.requires.2 (omega arith)) c.exact_of.ensures in
    (omega arith, l.1, omega arith, e.1)

pub loop-n-preserved : goal.loop-n-preserved
loop-n-preserved c =
    let l = c.loop-n.invariant in
    let x = c.exact_of.ensures in
    let e = exact-small _ _ c.requires.0 (none-too-long _ _ c.requires.2 (omega arith)) x in
    let j = joined_small _ _ l.1 e.1 c.join-sum.ensures in
    (omega arith, j.1, carry-on _ _ _ _ _ (omega arith) (c.join-sum.ensures ∙ ap (joined _) x) l.2)

pub returns : goal.returns
returns c = carry-end _ _ _ _ (omega arith) c.loop-n.invariant.2
