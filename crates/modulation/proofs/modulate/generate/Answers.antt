-- `tx::generate` meets its contract: each turn stores eight samples more, and the last are stored singly. Assumes nothing.
use mathlib.Core.Path.{◌∙◌}
use native.Mathlib.Omega.{arith}
use lib.ListN.{length-set}
use Rattle.modulation.proofs.Tones.{stored-eight, sound_more}
use Rattle.modulation.proofs.modulate.generate.Goals as goal

pub loop-i-preserved : goal.loop-i-preserved
loop-i-preserved c =
    let l = c.loop-i in
    let s = c.step_eight-s in (
      omega arith,
      simp length-set l.invariant.1,
      s.ensures.bits_held,
      sound_more _ _ _ _ _ _ 8 _ _ (omega arith) (stored-eight _ _ _ _ _ _ _ _ _ _ (omega arith)) s.ensures.wave_value ∙ l.invariant.3,
    )
