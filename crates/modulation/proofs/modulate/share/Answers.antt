-- `tx::share` meets its contract: the two parts of what was made go to the rest and to `pending`. Assumes nothing.
use Rattle.modulation.proofs.Sharing.{shares}
use Rattle.std.proofs.Common.{◌≡◌, ◌-◌, ◌++◌, length, drop, arith, length-append, length-take, length-drop}
use Rattle.modulation.proofs.modulate.share.Goals as goal

pub returns : goal.returns
returns c =
    let p = c.args.pending.now in
    let n = c.scale_into-2.new.out in
    let k = length c.args.xs.now - c.min-count.result in
    let whole : length (n ++ drop k p) ≡ 64 = rw length-append (omega (arith, c.scale_into-2.auto.out, length-take k p, length-drop k p, c.requires.0, c.requires.1, c.min-count.ensures)) in
    shares _ _ _ _ _ _ _ _ c.min-count.ensures c.scale_into.ensures c.scale_into-2.ensures whole
