-- A read that fails leaves the text as it was. Assumes nothing.
use native.Mathlib.Omega.{arith}
use Rattle.console.proofs.Blocks.{read_none}
use Rattle.console.proofs.text.read_block.Goals as goal

pub returns-in_default-clause-failed : goal.returns-in_default-clause-failed
returns-in_default-clause-failed g c = read_none _ c.requires (omega arith)
