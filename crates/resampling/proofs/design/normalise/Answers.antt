-- `design::normalise` meets its contract. The invariant: the taps before i are divided, and those behind are as they came. Assumes nothing.
use Rattle.resampling.specs.Design.{most_taps}
use Rattle.numeric.proofs.Loops.{map-turn, rest-turn, rest-first}
use lib.Ieee.{nan}
use native.Mathlib.Omega.{arith}
use mathlib.Core.Path.{◌≡◌, refl}
use lib.ListN.{length, length-set}
use Rattle.numeric.specs.F64.{◌⊘◌}
use borrow.Author.Rules.{rules}
use Rattle.resampling.proofs.design.normalise.Goals as goal

pub loop-i-init : goal.loop-i-init
loop-i-init c = (search rules, refl, refl)

pub loop-i-preserved : goal.loop-i-preserved
loop-i-preserved c =
    let l = c.loop-i in
    let old = c.args.taps in
    let k : length old ≡ most_taps = search rules in
    let h = c.requires in (
      simp length-set l.invariant.0,
      map-turn (λ x. x ⊘ c.args.sum) l.taps old l.i nan (omega arith) (omega arith) l.invariant.1 (rest-first l.taps old l.i nan l.invariant.2),
      rest-turn l.taps old l.i _ l.invariant.2,
    )

pub returns : goal.returns
returns c =
    let l = c.loop-i in
    let a = c.args in
    let e : a.n ≡ l.i = omega arith in
    rw e l.invariant.1
