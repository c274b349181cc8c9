-- The row of three. Assumes nothing.
use mathlib.Core.Path.{◌≡◌, ◌∙◌}
use mir.Syntax.{w16, w64}
use mir.Val.{to_z, of_z}
use mir.ValLaws.{to_z_pos, to_z-of_z}
use native.Mathlib.Omega.{arith}
use borrow.Author.Rules.{rules}
use Rattle.ffi.proofs.Charging.{month-row}
use Rattle.ffi.proofs.charge.lay_month.Goals as goal

pub returns : goal.returns
returns c =
    let m = c.args.month in
    let part : to_z w16 (of_z w16 m.part) ≡ m.part = search rules in
    rw (to_z_pos w64 m.thousandths (omega (arith, c.requires.0)), to_z_pos w64 m.pence (omega (arith, c.requires.1)), to_z-of_z w64 c.from.result (record { sfits = c.from.type_inv }), c.from.ensures, part) at c.lay.ensures ∙ month-row m _
