-- Two characters say the byte at its place, and digits say bytes. Assumes nothing.
use Rattle.hexadecimal.specs.Hex.{unhex}
use native.Mathlib.Omega.{arith}
use Rattle.hexadecimal.proofs.HexLaws.{unhex-bytes, byte_at}
use Rattle.hexadecimal.proofs.ByPlace.{unhex-at, unhex-past, hex-most}
use lib.ListN.{get_or}
use mathlib.Core.Path.{◌∙◌, sym, ap₂}
use Prim.Native.Nat.{ℕ, ◌+◌, ◌*◌}
use Rattle.hexadecimal.proofs.byte.Goals as goal

pub returns-then-n-i : goal.returns-then-n-i
returns-then-n-i c =
    (sym (unhex-past c.args.s.now c.args.i c.if-n-i.true), omega arith, λ h. omega arith)

pub returns : goal.returns
returns c =
    let s = c.args.s.now in
    let p = c.digit-a.ensures in
    let q = c.digit-b.ensures in
    let e = ap₂ (λ (x y : ℕ). 16 * x + y) p q ∙ sym (unhex-at s c.args.i (omega arith)) in (
      e,
      omega (arith, p, q, hex-most (get_or s (2 * c.args.i) 0), hex-most (get_or s (2 * c.args.i + 1) 0)),
      λ h. omega (arith, e, byte_at (unhex s) c.args.i (unhex-bytes s h)),
    )
