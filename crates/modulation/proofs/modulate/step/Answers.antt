-- `tx::step` meets its contract. Assumes nothing.
use Rattle.modulation.proofs.Tones.{once}
use Rattle.modulation.proofs.modulate.step.Goals as goal

pub returns-clause-wave_value : goal.returns-clause-wave_value
returns-clause-wave_value c = once c.args.t _ _ _ c.advance-wave.ensures.result_value c.sine-value.ensures
