-- `listen::morkhetta_board_refusal` meets its contract: each test decides one part of the definition. Assumes nothing.
use mathlib.Core.Path.{refl, sym, ◌∙◌}
use borrow.Author.Tests.{eq-eqb, ne_eqb}
use Rattle.refusal.specs.Refusals.{first}
use Rattle.board.specs.Plain.{new_number}
use Rattle.ffi.proofs.listen.morkhetta_board_refusal.Goals as goal

pub returns-then-not-rate_ok : goal.returns-then-not-rate_ok
unfolding new_number first
returns-then-not-rate_ok c = rw (sym c.rate_ok.ensures ∙ c.if-not-rate_ok.true-raw) refl

pub returns-then-station-eq0 : goal.returns-then-station-eq0
unfolding new_number first
returns-then-station-eq0 c = rw (sym c.rate_ok.ensures ∙ c.if-not-rate_ok.false-raw, eq-eqb _ _ c.if-station-eq0.true) refl

pub returns : goal.returns
unfolding new_number first
returns c = rw (sym c.rate_ok.ensures ∙ c.if-not-rate_ok.false-raw, ne_eqb _ _ c.if-station-eq0.false) refl
