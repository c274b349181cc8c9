-- The sum so far and the sum from place i on are together the whole, up to multiples of 256. Assumes nothing.
use Prim.Native.Nat.{◌+◌, ◌%◌, ◌<◌}
use mathlib.Core.Path.{◌≡◌}
use lib.ListN.{drop}
use Rattle.hexadecimal.specs.Hex.{unhex, total}
use Rattle.hexadecimal.proofs.sum.Given as goal

abbrev pub invariant-loop-i : goal.invariant-loop-i
invariant-loop-i l = (l.t < 256) × ((l.t + total (drop l.i (unhex l.s))) % 256 ≡ total (unhex l.s) % 256)
