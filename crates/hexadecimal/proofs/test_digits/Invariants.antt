-- All characters before place i are digits; one that is none, or the end, settles the answer. Assumes nothing.
use mathlib.Core.Path.{◌≡◌}
use mathlib.Core.Bool.{true}
use lib.ListN.{take}
use Rattle.hexadecimal.specs.Hex.{all_hex}
use Rattle.hexadecimal.proofs.test_digits.Given as goal

abbrev pub invariant-loop-i : goal.invariant-loop-i
invariant-loop-i l = all_hex (take l.i l.s) ≡ true
