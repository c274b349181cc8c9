-- The reader is at the first sample. Assumes nothing.
use Rattle.listen_app.proofs.session.hear_pcm.Goals as goal

pub returns : goal.returns
returns g c = rw c.raw_16.ensures at c.hear_all.ensures
