-- The reader is at the first float. Assumes nothing.
use Rattle.listen_app.proofs.session.hear_floats.Goals as goal

pub returns : goal.returns
returns g c = rw c.raw.ensures at c.hear_all.ensures
