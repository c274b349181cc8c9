-- The decoder is what `add_byte` ensures, and the count what `saturating_add` ensures. Assumes nothing.
use Rattle.console.proofs.Blocks.{taken-end, taken-on}
use Rattle.console.proofs.text.after_byte.Goals as goal

pub returns-in_default : goal.returns-in_default
returns-in_default c =
    taken-on _ _ _ c.add_byte-s.ensures c.in_default.is

pub returns : goal.returns
returns c =
    taken-end _ _ _ _ _ c.add_byte-s.ensures c.in-Some.is c.saturating_add-k.ensures _
