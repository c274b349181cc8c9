-- The text is read from its start on. Assumes nothing.
use Rattle.console.proofs.Lines.{reads_none, reads_all, answered}
use Rattle.console.proofs.numbers.read_numbers.Goals as goal

pub returns-in_default : goal.returns-in_default
returns-in_default g c = reads_none _ _ _ c.read_to_end.ensures.some

pub returns : goal.returns
returns g c = reads_all _ _ _ _ (answered _ _ _ _ c.in-Ok.is c.read_to_end.ensures) c.input_of.ensures
