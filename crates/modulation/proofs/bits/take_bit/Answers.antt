use mathlib.Core.Path.{refl}
use native.Mathlib.Omega.{arith}
use Rattle.modulation.proofs.BitRing.{none-takes, one-takes}
use Rattle.modulation.proofs.bits.take_bit.Goals as goal

pub returns-then-waiting-eq0 : goal.returns-then-waiting-eq0
returns-then-waiting-eq0 c = none-takes _ _ _ c.if-waiting-eq0.true c.requires

pub returns : goal.returns
returns c = one-takes _ _ _ _ _ c.requires (omega arith) refl c.place_after-next.ensures.0
