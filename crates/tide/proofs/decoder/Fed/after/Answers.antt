-- The happening is what `take` ensures, and the answer's place what `lay` ensures. Assumes nothing.
use Rattle.tide.proofs.Moves.{one_end, one_on}
use Rattle.tide.proofs.decoder.Fed.after.Goals as goal

pub returns-in_default : goal.returns-in_default
returns-in_default c = one_on _ _ _ _ c.take-answer.ensures c.in_default.is

pub returns : goal.returns
returns c = one_end _ _ _ _ _ _ c.take-answer.ensures c.in-Some.is c.lay.ensures
