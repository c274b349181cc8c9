-- An f64 holds both, and their quotient. Assumes nothing.
use mathlib.Core.Path.{◌∙◌}
use Rattle.wav.proofs.SampleLaws.{part-is}
use Rattle.wav.proofs.sample.part.Goals as goal

pub returns : goal.returns
returns c = c.narrow.ensures ∙ part-is _ _ c.requires.0 c.requires.1
