-- Before place i the bytes so far, and those from i on, say what the whole says. Assumes nothing.
use Prim.Native.Nat.{◌+◌}
use mathlib.Core.Path.{subst⁻¹}
use Rattle.store.specs.declared.reading.Scan.{Scan}
use Rattle.store.proofs.Passing.{Going, going_on, going_end}
use Rattle.store.proofs.reading.pass_all.Goals as goal

pub loop-i-preserved : goal.loop-i-preserved
loop-i-preserved c =
    subst⁻¹ (λ (f : Scan). Going c.args.s.now f (c.loop-i.i + 1)) c.pass_byte-f.ensures (going_on _ _ _ c.loop-i-test.true c.loop-i.invariant)

pub returns : goal.returns
returns c = going_end _ _ _ c.loop-i-test.false c.loop-i.invariant
