-- `tx::pass_in` meets its contract: what is made is shared between the rest and `pending`, where the surplus has room. Assumes nothing.
use Rattle.modulation.proofs.Sharing.{pass-into}
use Rattle.modulation.proofs.Counts.{surplus}
use lib.ListN.{length}
use mathlib.Core.Path.{◌∙◌}
use native.Mathlib.Omega.{arith}
use lib.Seq.{length-take-le}
use Rattle.modulation.proofs.modulate.pass_in.Goals as goal

pub share-count-requires : goal.share-count-requires
share-count-requires c =
    let m = c.make-m in
    let up = c.requires.wave_held.1 in
    let l = length-take-le m.result.count m.new.out m.ensures.within in
    let s = surplus c.args.s.rate (length c.args.rest.now) up.low up.high in
    (omega (arith, l, s, m.ensures.within, m.auto.out, c.requires.scratch_len.1), c.requires.wave_held.3)

pub returns : goal.returns
returns c =
    let m = c.make-m in
    pass-into c.args.s.rate c.args.s.tones c.args.s.amplitude c.args.bits.now c.args.w _ c.args.r _ _ _ _ _ _ _ c.requires.wave_held.1 (m.auto.out ∙ c.requires.scratch_len.1) (rw c.requires.scratch_len.0 at m.ensures) c.share-count.ensures
