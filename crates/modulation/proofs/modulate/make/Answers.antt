-- What `generate` and `run` ensure, together. Assumes nothing.
use Rattle.modulation.proofs.Sharing.{makes}
use Rattle.modulation.proofs.modulate.make.Goals as goal

pub returns : goal.returns
returns c =
    let g = c.generate-wave.ensures in
    let p = c.run-p.ensures in
    makes _ _ _ _ _ _ _ _ c.args.out.now _ _ g.result_after g.bits_held c.run-p.auto.output p.output_after
