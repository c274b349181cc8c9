-- Fewer than eight samples are all in front. Assumes nothing.
use Rattle.listen_app.proofs.Hosting.{front-all}
use Rattle.listen_app.proofs.host.Host.write_front.Goals as goal

pub returns-then-samples-lt8 : goal.returns-then-samples-lt8
returns-then-samples-lt8 c = rw (front-all c.args.samples.now c.if-samples-lt8.true) c.write_piece.ensures
