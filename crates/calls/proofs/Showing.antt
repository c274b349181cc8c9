-- What a board shows, as numbers in a slice. Assumes nothing.
use Prim.Native.Nat.{ℕ}
use mathlib.Core.Path.{◌≡◌, refl, ap, ◌∙◌}
use mathlib.Core.List.{List, [], ◌∷◌, ◌++◌}
use native.Mathlib.Omega.{arith}
use lib.IntN.{ℤ, pos, negsuc}
use lib.ListN.{take, drop}
use lib.Seq.{drop-drop}
use mir.Syntax.{w16}
use mir.Val.{of_z}
use Rattle.tide.specs.Frame.{bits_of}
use Rattle.tide.specs.Judge.{Shown}
use Rattle.calls.specs.Shown.{shown_numbers}

-- ---- the bits of a level
-- the bits that the conversion gives
pub level-bits : (z : ℤ) → of_z w16 z ≡ bits_of z
unfolding bits_of
level-bits (pos n) = refl
level-bits (negsuc n) = omega arith

-- the three numbers and then the counts, in front of the rest
pub board-put : (sh : Shown) (counts l l₁ l₂ : List ℕ) (x y z : ℕ)
    → x ∷ y ∷ z ∷ [] ≡ shown_numbers sh → l₁ ≡ x ∷ y ∷ z ∷ drop 3 l → l₂ ≡ take 3 l₁ ++ (counts ++ drop 15 l₁)
    → l₂ ≡ shown_numbers sh ++ counts ++ drop 15 l
board-put sh counts l l₁ l₂ x y z three first second =
    second
    ∙ ap (λ (m : List ℕ). take 3 m ++ (counts ++ drop 15 m)) first
    ∙ ap (λ (r : List ℕ). x ∷ y ∷ z ∷ (counts ++ r)) (drop-drop 12 3 l)
    ∙ ap (λ (t : List ℕ). t ++ counts ++ drop 15 l) three
