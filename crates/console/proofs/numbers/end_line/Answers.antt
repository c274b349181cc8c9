-- The match told what is known of the line. Assumes nothing.
use native.Mathlib.Omega.{arith}
use Rattle.console.proofs.Lines.{end-says, end-wrong, not-says}
use Rattle.console.proofs.numbers.end_line.Goals as goal

pub returns-in-Says : goal.returns-in-Says
returns-in-Says c = end-says _ _ _ _ _ c.in-Says.is (omega arith) c.saturating_add.ensures c.put.ensures

pub returns-in_default : goal.returns-in_default
returns-in_default c = end-wrong _ _ (not-says _ c.in_default.not-Says)
