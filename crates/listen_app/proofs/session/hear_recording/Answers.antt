-- The reader is fresh. Assumes nothing.
use Rattle.listen_app.proofs.session.hear_recording.Goals as goal

pub returns : goal.returns
returns g c = rw c.new.ensures at c.hear_all.ensures
