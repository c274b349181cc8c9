-- A cosine is the sine a quarter turn on. Assumes nothing.
use Rattle.numeric.specs.Sine.{cosine_of}
use Rattle.demodulation.proofs.waves.waves.Goals as goal

pub returns : goal.returns
unfolding cosine_of
returns c =
    let e = c.sines-v.ensures in
    (e.first, e.second, e.third, e.fourth)
