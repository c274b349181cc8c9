-- From place i on the codes have what is left to count. Assumes nothing.
use Prim.Native.Nat.{ℕ}
use mathlib.Core.List.{List}
use lib.ListN.{length}
use Rattle.happenings.specs.Happening.{byte_of, bad_stop_of, bytes_in, bad_stops_in}
use Rattle.happenings.specs.declared.happening.Happening.{Happening}
use Rattle.happenings.proofs.Counting.{Going}
use Rattle.happenings.proofs.happening.tally_of.Given as goal

abbrev pub each : Happening → ℕ
each h = length (byte_of h)

abbrev pub all : List Happening → ℕ
all hs = length (bytes_in hs)

abbrev pub invariant-loop-code : goal.invariant-loop-code
invariant-loop-code l = Going each all l.codes l.bytes l.code-index × Going bad_stop_of bad_stops_in l.codes l.bad_stops l.code-index
