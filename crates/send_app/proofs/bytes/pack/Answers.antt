-- So many samples are laid, one after the other. Assumes nothing.
use Rattle.std.proofs.Common.{ℕ, ◌+◌, ◌*◌, List, length, take, ap, ◌∙◌, arith}
use Rattle.send_app.specs.Header.{width_of}
use Rattle.send_app.specs.Bytes.{bytes_of}
use Rattle.send_app.proofs.BytesLaws.{placed-length, room, packs-none, packs-more}
use Rattle.send_app.proofs.bytes.pack.Goals as goal

pub loop-i-init : goal.loop-i-init
loop-i-init c = (c.requires.1, packs-none (bytes_of c.args.kind) (width_of c.args.kind) c.args.bytes.now c.args.samples.now)

pub put_sample-requires : goal.put_sample-requires
put_sample-requires c = omega (arith, c.offset.ensures, room c.args.kind _ _ c.loop-i-test.true c.requires.0, c.loop-i.invariant.0)

pub loop-i-preserved : goal.loop-i-preserved
loop-i-preserved c =
    let k = c.args.kind in
    let i = c.loop-i.i in (
      ap length c.put_sample.ensures ∙ placed-length k _ _ _ ∙ c.loop-i.invariant.0,
      ap (λ (z : List ℕ). take (width_of k * (i + 1)) z) c.put_sample.ensures
          ∙ packs-more k _ _ _ i _ c.loop-i-test.true c.requires.0 c.loop-i.invariant.0 c.offset.ensures c.loop-i.invariant.1,
    )
