-- All characters before place i are digits; one that is none, or the end, settles the answer. Assumes nothing.
use Rattle.std.specs.Prelude.{Option, Some, None}
use Rattle.hexadecimal.proofs.FirstWrong.{only, take-digit}
use lib.Seq.{take_all}
use Rattle.hexadecimal.proofs.ByPlace.{hex-most}
use Prim.Native.Nat.{ℕ}
use mathlib.Core.Path.{◌≡◌}
use mathlib.Core.List.{List}
use lib.ListN.{get_or}
use native.Mathlib.Numerals.{add-one}
use native.Mathlib.Omega.{arith}
use Rattle.hexadecimal.specs.Hex.{first_wrong, Says}
use Rattle.hexadecimal.proofs.test_digits.Goals as goal

-- both halves of the contract
settled : (s : List ℕ) (d : Option ℕ) → Says s d → (d ≡ first_wrong s) × Says s d
settled s d h = (only s d h, h)

pub returns-then-digit-ge16 : goal.returns-then-digit-ge16
returns-then-digit-ge16 c =
    let s = c.args.s.now in
    let i = c.loop-i.i in
    settled s (Some i) (omega arith, c.loop-i.invariant, omega (arith, c.digit.ensures, hex-most (get_or s i 0)))

pub loop-i-preserved : goal.loop-i-preserved
loop-i-preserved c =
    let i = c.loop-i.i in
    rw (add-one i) (take-digit c.args.s.now i (omega arith) (omega (arith, c.digit.ensures)) c.loop-i.invariant)

pub returns : goal.returns
returns c =
    let s = c.args.s.now in
    settled s None (rw (take_all c.loop-i.i s (omega arith)) at c.loop-i.invariant)
