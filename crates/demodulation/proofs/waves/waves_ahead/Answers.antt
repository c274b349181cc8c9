-- The phases one sample on are the definition's. Assumes nothing.
use mathlib.Core.Path.{ap, ◌∙◌}
use Rattle.numeric.specs.Sine.{sine_of, cosine_of}
use Rattle.demodulation.specs.Correlation.{advanced}
use Rattle.demodulation.proofs.waves.waves_ahead.Goals as goal

pub returns : goal.returns
unfolding advanced
returns c =
    let m = c.turn.ensures in
    let s = c.turn-2.ensures in
    let w = c.waves.ensures in
    (w.0 ∙ ap cosine_of m, w.1 ∙ ap sine_of m, w.2 ∙ ap cosine_of s, w.3 ∙ ap sine_of s)
