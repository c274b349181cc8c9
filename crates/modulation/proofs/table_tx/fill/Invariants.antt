-- `table_tx::fill` meets its contract: each turn stores one sample more. Assumes nothing.
use Prim.Native.Nat.{◌≤◌, ◌-◌, ◌+◌}
use mathlib.Core.Path.{◌≡◌}
use lib.ListN.{length}
use Rattle.modulation.specs.TableTx.{sent}
use Rattle.modulation.specs.Keying.{phase_of, Keyed}
use Rattle.modulation.proofs.TableSteps.{sent_at}
use Rattle.modulation.proofs.table_tx.fill.Given as goal

abbrev pub invariant-loop-i : goal.invariant-loop-i
invariant-loop-i l = (l.i ≤ length l.initial.out) × (length l.out ≡ length l.initial.out) × Keyed l.bits l.keying × (l.keying.samples + (length l.initial.out - l.i) ≤ 4294967296)
    × (sent_at l.out l.i (length l.initial.out) l.h (phase_of l.bits l.keying) ≡ sent (length l.initial.out) l.h (phase_of l.bits l.initial.keying))

abbrev pub decreases-loop-i : goal.decreases-loop-i
decreases-loop-i l = length l.initial.out - l.i
