-- The test is of the level itself. Assumes nothing.
use Rattle.ffi.proofs.GaugeLaws.{gauge-back, gauge-missing, gauge-there}
use mathlib.Core.Path.{◌∙◌}
use Rattle.ffi.proofs.gauges.gauge.Goals as goal

pub returns-then-level-ltminus32767 : goal.returns-then-level-ltminus32767
returns-then-level-ltminus32767 c = gauge-missing _ _ c.if-level-ltminus32767.true ∙ gauge-back _ _ c.ranges.level

pub returns : goal.returns
returns c = gauge-there _ _ c.if-level-ltminus32767.false ∙ gauge-back _ _ c.ranges.level
