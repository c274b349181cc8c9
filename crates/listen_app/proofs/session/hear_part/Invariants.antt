-- From each part on the host hears what it hears from the start on. Assumes nothing.
use mathlib.Core.Path.{◌≡◌}
use Rattle.listen_app.specs.HostRep.{host_of}
use Rattle.listen_app.specs.Listener.{view, heard_bytes}
use Rattle.listen_app.specs.BlockReader.{BlockReaderSound}
use Rattle.listen_app.specs.BlockReaderRep.{gathered}
use lib.ListN.{length, drop}
use Prim.Native.Nat.{◌≤◌, ◌-◌}
use Rattle.listen_app.proofs.session.hear_part.Given as goal

abbrev pub invariant-loop-at : goal.invariant-loop-at
invariant-loop-at l = BlockReaderSound l.block l.reader.n × (l.at ≤ length l.input)
    × (heard_bytes (view (gathered l.reader l.block) (host_of l.host)) (drop l.at l.input) ≡ heard_bytes (view (gathered l.initial.reader l.initial.block) (host_of l.initial.host)) (drop l.initial.at l.input))

abbrev pub decreases-loop-at : goal.decreases-loop-at
decreases-loop-at l = length l.input - l.at
