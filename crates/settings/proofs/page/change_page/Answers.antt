-- An accepted write put its line within the page. Assumes nothing.
use lib.ListN.{length-take}
use native.Mathlib.Omega.{arith}
use Rattle.settings.proofs.Pages.{placed}
use Rattle.settings.proofs.page.change_page.Goals as goal

pub put_line-requires : goal.put_line-requires
put_line-requires g c =
    let b = c.args.page.now in
    let h = placed b _ _ _ _ _ c.write.ensures c.in-Ok.is in
    (omega (arith, h, c.unused_from-at.ensures, length-take 256 b), omega arith)
