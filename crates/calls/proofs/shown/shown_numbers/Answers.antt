-- `shown::shown_numbers` meets its contract, by cases on what is shown. Assumes nothing.
use mathlib.Core.Path.{refl}
use borrow.Author.Rules.{rules}
use Rattle.calls.proofs.Showing.{level-bits}
use Rattle.calls.proofs.shown.shown_numbers.Goals as goal

pub returns-in-None : goal.returns-in-None
returns-in-None c = rw c.in-None.is refl

pub returns-in-Some : goal.returns-in-Some
returns-in-Some c = let e = level-bits c.in-Some.reading.level in search rules
