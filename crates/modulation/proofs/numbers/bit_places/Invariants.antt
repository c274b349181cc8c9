-- `numbers::bit_places` meets its contract. The invariant: the first i bits are laid out, and the others stand in the ring from `at` on. Assumes nothing.
use Prim.Native.Nat.{◌-◌, ◌<◌}
use mathlib.Core.Path.{◌≡◌}
use mathlib.Core.List.{map}
use lib.ListN.{drop}
use Rattle.modulation.specs.Bits.{most_bits, queued}
use Rattle.modulation.specs.Numbers.{mark_number}
use Rattle.modulation.proofs.NumberLaws.{filled}
use Rattle.modulation.proofs.numbers.bit_places.Given as goal

abbrev pub invariant-loop-i : goal.invariant-loop-i
invariant-loop-i l = (l.at < 4096) × (drop l.i (queued l.bits l.head l.waiting) ≡ queued l.bits l.at (l.waiting - l.i)) × (l.a ≡ filled most_bits (map mark_number (queued l.bits l.head l.waiting)) l.i)
