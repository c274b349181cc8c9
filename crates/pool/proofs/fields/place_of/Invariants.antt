-- From place i on the byte stands as far as the whole says. Assumes nothing.
use Rattle.pool.specs.Fields.{place_of}
use Prim.Native.Nat.{◌+◌}
use mathlib.Core.Path.{◌≡◌}
use lib.ListN.{drop}
use Rattle.pool.proofs.fields.place_of.Given as goal

abbrev pub invariant-loop-i : goal.invariant-loop-i
invariant-loop-i l = l.i + place_of l.c (drop l.i l.s) ≡ place_of l.c l.s
