-- `tx::room_for` meets its contract: no count overflows. Assumes nothing.
use Rattle.modulation.proofs.Counts.{room-unequal}
use Prim.Native.Nat.{◌+◌}
use mathlib.Core.Path.{sym, ap, ◌∙◌}
use Rattle.modulation.proofs.modulate.room_for.Goals as goal

pub returns : goal.returns
returns c = ap (λ x. x + 2) c.nearest.ensures ∙ sym (room-unequal _ _ c.requires.0)
