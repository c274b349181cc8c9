-- The loop's invariant: the samples that are left bring the block to where all 255 bring a fresh one. The 256th ends it, since the
-- count is then 255. Assumes nothing.
use Prim.Native.Nat.{◌-◌}
use mathlib.Core.Path.{◌≡◌}
use Rattle.demodulation.specs.Selftest.{fed, all_but_one}
use Rattle.demodulation.proofs.selftest.block_verdict.Given as goal

abbrev pub invariant-loop : goal.invariant-loop
invariant-loop l = all_but_one l.mark_hz l.own_mark_hz l.own_space_hz l.x ≡ fed (255 - l.counter) l.x l.d
