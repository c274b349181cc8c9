-- The match told what the test answered. Assumes nothing.
use mathlib.Core.Path.{◌∙◌, sym, ap}
use Rattle.ffi.specs.Digits.{place_in}
use Rattle.ffi.proofs.digits.morkhetta_test_digits.Goals as goal

pub returns-in-None : goal.returns-in-None
returns-in-None c =
    let s = c.args.characters.now in
    sym (ap (place_in s) (sym c.test_digits-answer.ensures.0 ∙ c.in-None.is))

pub returns-in-Some : goal.returns-in-Some
returns-in-Some c =
    let s = c.args.characters.now in
    sym (ap (place_in s) (sym c.test_digits-answer.ensures.0 ∙ c.in-Some.is))
