use mathlib.Core.Path.{◌≡◌}
use mathlib.Core.Bool.{true}
use mathlib.Core.List.{◌∷◌, []}
use native.Mathlib.Omega.{arith}
use Rattle.framing.specs.Framing.{marks}
use Rattle.modulation.proofs.BitRing.{none-joins, more-joins, marks-more, marks-length}
use Rattle.modulation.proofs.bits.push_marks.Goals as goal

pub loop-init : goal.loop-init
loop-init c = none-joins _ _ _ c.requires.0

pub push_one-at-requires : goal.push_one-at-requires
push_one-at-requires c =
    let l = c.loop in
    (l.invariant.held, omega (arith, l.invariant.count, marks-length l.counter))

pub loop-preserved : goal.loop-preserved
loop-preserved c =
    let l = c.loop in
    rw (marks-more l.counter) at (more-joins _ _ _ _ _ _ _ (marks l.counter) (true ∷ []) l.invariant c.push_one-at.ensures)

pub returns : goal.returns
returns c =
    let l = c.loop in
    let e : l.counter ≡ c.args.n = omega arith in
    rw e at l.invariant
