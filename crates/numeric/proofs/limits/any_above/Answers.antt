-- The numbers from a place on have one above the limit just where the whole list has. Assumes nothing.
use Rattle.std.proofs.Common.{◌≡◌, ℕ, ◌+◌, ◌<◌, ◌≤◌, true, false, List, length, get_or, drop, refl, sym, ◌∙◌, add-one, arith}
use lib.ListN.{drop_of_length-le}
use lib.Seq.{drop-cons}
use borrow.Author.Tests.{lt-ltb, le-ltb}
use Rattle.numeric.specs.Limits.{any_above}
use Rattle.numeric.proofs.limits.any_above.Goals as goal

here : (m : ℕ) (xs : List ℕ) (i : ℕ) → i < length xs → m < get_or xs i 0 → any_above m (drop i xs) ≡ true
unfolding any_above
here m xs i h l = rw (drop-cons xs i 0 h, lt-ltb m (get_or xs i 0) l) refl

past : (m : ℕ) (xs : List ℕ) (i : ℕ) → i < length xs → get_or xs i 0 ≤ m → any_above m (drop i xs) ≡ any_above m (drop (i + 1) xs)
unfolding any_above
past m xs i h l = rw (add-one i, drop-cons xs i 0 h, le-ltb m (get_or xs i 0) l) refl

end : (m : ℕ) (xs : List ℕ) (i : ℕ) → length xs ≤ i → any_above m (drop i xs) ≡ false
unfolding any_above
end m xs i h = rw (drop_of_length-le xs h) refl

pub returns-then-limit-x : goal.returns-then-limit-x
returns-then-limit-x c = sym (here _ _ c.loop-x.x-index (omega arith) c.if-limit-x.true) ∙ c.loop-x.invariant

pub loop-x-preserved : goal.loop-x-preserved
loop-x-preserved c = sym (past _ _ c.loop-x.x-index (omega arith) c.if-limit-x.false) ∙ c.loop-x.invariant

pub returns : goal.returns
returns c = sym (end _ _ c.loop-x.x-index (omega arith)) ∙ c.loop-x.invariant
