-- `tx::generate_singly` meets its contract: each turn stores one sample more. Assumes nothing.
use mathlib.Core.Path.{◌∙◌}
use native.Mathlib.Omega.{arith}
use lib.ListN.{length-set}
use Rattle.modulation.proofs.Tones.{sound-turn, sound-done}
use Prim.Native.Nat.{◌≤◌}
use lib.ListN.{length}
use Rattle.modulation.proofs.modulate.generate_singly.Goals as goal

pub loop-x-preserved : goal.loop-x-preserved
loop-x-preserved c =
    let l = c.loop-x in
    let t = c.step-s in (
      simp length-set l.invariant.0,
      t.ensures.bits_held,
      sound-turn _ _ _ _ _ _ _ (omega arith) (omega arith) t.ensures.wave_value ∙ l.invariant.2,
    )

pub returns-clause-result_after : goal.returns-clause-result_after
returns-clause-result_after c =
    let l = c.loop-x in
    let e : length l.out ≤ l.x-index = omega (arith, l.invariant.0) in
    sound-done _ _ _ _ _ l.invariant.0 e ∙ l.invariant.2
