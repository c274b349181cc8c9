-- 0A ends the line, and any other character is one more of it. Assumes nothing.
use borrow.Author.Tests.{ne_eqb}
use Rattle.console.proofs.Lines.{char-on}
use Rattle.console.proofs.numbers.after_char.Goals as goal

pub returns : goal.returns
returns c = char-on _ _ _ _ (ne_eqb _ _ c.if-c-eq10.false) c.grow.ensures
