-- The decoder is fresh, and the text is read from there on. Assumes nothing.
use mathlib.Core.Path.{refl}
use Rattle.console.proofs.Blocks.{judges_ok, judges_err}
use Rattle.console.proofs.text.judge_input.Goals as goal

pub returns : goal.returns
returns g c =
    let r = c.read_all in
    let s = c.new.ensures.same in
    record { read = judges_ok _ _ r.result s refl r.ensures.read; failed = judges_err _ _ r.result s refl r.ensures.failed }
