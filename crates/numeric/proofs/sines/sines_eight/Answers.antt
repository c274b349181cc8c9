-- Where none is beyond its turn, each value is its steps'; else it is what `sine` ensures. Assumes nothing.
use Rattle.std.proofs.Common.{sym, ◌∙◌}
use Rattle.numeric.proofs.SinesLaws.{inside, inside-sines}
use Rattle.numeric.proofs.sines.sines_eight.Goals.{then-any_beyond, else-any_beyond}
use Rattle.numeric.proofs.sines.sines_eight.Goals as goal

pub returns-else-any_beyond-2 : goal.returns-else-any_beyond-2
returns-else-any_beyond-2 c =
    let s = c.eight_within.ensures in
    elim c.if-any_beyond.branch [
      | then-any_beyond w ↦ absurd (cc w.if-any_beyond.true)
      | else-any_beyond w ↦ (
        inside-sines (inside c.any_beyond.ensures w.if-any_beyond.false) s.0,
        inside-sines (inside w.any_beyond-else-any_beyond.ensures (sym w.value-is ∙ c.if-any_beyond-2.false)) s.1,
      )
    ]
