-- What is left from each place on makes of the host what the whole makes of it from the start on. Assumes nothing.
use Prim.Native.Nat.{◌≤◌}
use mathlib.Core.Path.{◌≡◌}
use lib.ListN.{length, drop}
use Rattle.listen_app.specs.Host.{heard_eights}
use Rattle.listen_app.specs.HostRep.{host_of}
use Rattle.listen_app.proofs.host.Host.write_eights.Given as goal

abbrev pub invariant-loop-left : goal.invariant-loop-left
invariant-loop-left l = (l.at ≤ length l.samples) × (heard_eights l.left (host_of l.host) (drop l.at l.samples) ≡ heard_eights l.initial.left (host_of l.initial.host) (drop l.initial.at l.samples))

abbrev pub decreases-loop-left : goal.decreases-loop-left
decreases-loop-left l = l.left
