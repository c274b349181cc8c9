-- The test is made of each sample, so it is the definition's. Assumes nothing.
use mathlib.Core.Path.{◌≡◌, refl, ap, ◌∙◌}
use mathlib.Core.Bool.{Bool, ◌&&◌}
use mathlib.Core.List.{List, [], ◌∷◌}
use borrow.Author.Rules.{rules}
use borrow.Author.Tests.{tests}
use lib.Ieee.{Float}
use Rattle.std.specs.List.{list_all}
use Rattle.std.proofs.lemmas.Iterator.{YieldsList-from_slice}
use Rattle.std.proofs.lemmas.Iterator.Search.{all_from_yields_List}
use Rattle.numeric.specs.Convert.{in_range, all_in_range}
use Rattle.modem.proofs.samples.all_in_range.Goals as goal

each : (xs : List Float) → list_all in_range xs ≡ all_in_range xs
unfolding all_in_range
each [] = refl
each (x ∷ xs) = ap (λ (b : Bool). in_range x && b) (each xs)

pub returns : goal.returns
returns c =
    all_from_yields_List in_range _ _ _ c.all.ensures.ran (YieldsList-from_slice c.args.samples.now cc) (λ x b q k. search (rules, tests))
    ∙ each c.args.samples.now
