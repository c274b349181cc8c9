-- Each thing that the reader tells has its own progress. Assumes nothing.
use mathlib.Core.Path.{refl}
use Rattle.listen_app.specs.BlockReader.{reader_out}
use Rattle.listen_app.proofs.block_reader.Filling.after.Goals as goal

pub returns-in-Going : goal.returns-in-Going
unfolding reader_out
returns-in-Going c = record { same = λ v w. rw c.in-Going.is refl; sound = c.requires }

pub returns-in-Start : goal.returns-in-Start
unfolding reader_out
returns-in-Start c = record { same = λ v w. rw c.in-Start.is refl; sound = c.requires }

pub returns-in-Sample : goal.returns-in-Sample
unfolding reader_out
returns-in-Sample c =
    let s = c.with_sample.ensures in
    record { same = λ v w. rw c.in-Sample.is (s.same v w); sound = s.sound }

pub returns-in-Bad : goal.returns-in-Bad
unfolding reader_out
returns-in-Bad c = record { same = λ v w. rw c.in-Bad.is refl; sound = c.requires }
