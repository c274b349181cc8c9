-- From place i on a host hears what it hears from the start on. Assumes nothing.
use Rattle.listen_app.specs.Host.{PlainHost}
use mathlib.Core.Bool.{true}
use mathlib.Core.Path.{◌≡◌}
use Prim.Native.Nat.{◌≤◌, ◌-◌}
use Rattle.listen_app.specs.Listener.{heard_bytes, acted}
use Rattle.listen_app.specs.BlockReader.{BlockReaderSound, is_quiet}
use Rattle.listen_app.specs.BlockReaderRep.{filled}
use lib.ListN.{length, drop}
use Rattle.listen_app.proofs.block_reader.hear.Given as goal

abbrev pub invariant-loop-i : goal.invariant-loop-i
invariant-loop-i l = BlockReaderSound l.block l.f.n × (l.from ≤ l.i) × (l.i ≤ length l.input) × (l.i ≡ l.from → is_quiet l.f.progress ≡ true)
    × ((h : PlainHost) → heard_bytes (acted h (filled l.wav l.f l.block)) (drop l.i l.input) ≡ heard_bytes (acted h (filled l.initial.wav l.initial.f l.initial.block)) (drop l.initial.i l.input))

abbrev pub decreases-loop-i : goal.decreases-loop-i
decreases-loop-i l = length l.input - l.i
