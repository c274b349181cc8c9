-- `shown::put_board` meets its contract: the tests are the definition's, and the counts stand behind the three numbers. Assumes nothing.
use mathlib.Core.Path.{◌≡◌, refl, ap, ◌∙◌}
use lib.ListN.{length}
use borrow.Author.Rules.{rules}
use borrow.Author.Tests.{eq-eqb, ne_eqb, le-leb, lt-leb}
use Rattle.board.specs.BoardRep.{plain_of}
use Rattle.calls.specs.Shown.{shown_numbers}
use Rattle.calls.proofs.Showing.{board-put}
use Rattle.calls.proofs.shown.put_board.Goals as goal

pub returns-then-refusal-ne0 : goal.returns-then-refusal-ne0
returns-then-refusal-ne0 c = rw (ne_eqb _ 0 c.if-refusal-ne0.true) refl

pub returns-then-out-lt15 : goal.returns-then-out-lt15
returns-then-out-lt15 c = rw (eq-eqb _ 0 c.if-refusal-ne0.false, lt-leb 15 _ c.if-out-lt15.true) refl

pub returns : goal.returns
unfolding plain_of
returns c =
    let held = c.counts in
    let twelve : length held.result ≡ 12 = search rules in
    let counts = rw (twelve, held.ensures) at c.put_row-2.ensures in
    let three = c.put_row in
    let numbers = c.shown_numbers-n in
    let reading = c.reading in
    rw (eq-eqb _ 0 c.if-refusal-ne0.false, le-leb 15 _ c.if-out-lt15.false)
    (board-put (plain_of c.args.board).reading c.args.board.decoder.counts c.args.out.now three.new.out _ _ _ _ (numbers.ensures ∙ ap shown_numbers reading.ensures) three.ensures counts)
