-- The loop's invariant: what the updates that are left give is what all of them give from a fresh detector. Assumes nothing.
use Prim.Native.Nat.{◌+◌, ◌-◌}
use mathlib.Core.Path.{◌≡◌}
use Rattle.demodulation.specs.Carrier.{fresh_detector}
use Rattle.demodulation.specs.Selftest.{first_up}
use Rattle.demodulation.proofs.selftest.detector_rise.Given as goal

abbrev pub invariant-loop-done : goal.invariant-loop-done
invariant-loop-done l = first_up l.updates 1 fresh_detector l.energy ≡ first_up (l.updates - l.done) (l.done + 1) l.d l.energy
