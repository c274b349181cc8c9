-- The coefficient is twice what `cosine` ensures; the rest is the literal. Assumes nothing.
use Rattle.demodulation.specs.Goertzel.{goertzel_new}
use Rattle.demodulation.proofs.goertzel.Goertzel.new.Goals as goal

pub returns : goal.returns
unfolding goertzel_new
returns c = rw c.cosine.ensures
