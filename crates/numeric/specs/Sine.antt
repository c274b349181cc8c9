-- Document 01's sine and cosine, in the place of the library's. Assumes nothing.
use Rattle.std.specs.Prelude.{ℕ, zero, suc, List, [], ◌∷◌, Float}
use Rattle.std.specs.Float.Ieee.{neg}
use Rattle.numeric.specs.F64.{◌⊕◌, ◌⊖◌, ◌⊗◌, ◌⊘◌, ◌<ᶠ◌, ◌≤ᶠ◌, f64, whole, zero64, one64, tau, pi}
use Rattle.std.specs.Prelude.{if◌then◌else◌}

-- PI/2, and TAU/4: the same f64
abbrev pub quarter : Float
quarter = f64 0x3FF9_21FB_5444_2D18

-- "subtract TAU while x ≥ TAU, at most 64 times, and 0.0 if still ≥ TAU": here at most n times
unfoldable pub reduced : ℕ → Float → Float
reduced zero x = if tau ≤ᶠ x then zero64 else x
reduced (suc n) x = if tau ≤ᶠ x then reduced n (x ⊖ tau) else x

-- "if x > PI/2 take PI - x"
unfoldable pub folded : Float → Float
folded x = if quarter <ᶠ x then pi ⊖ x else x

-- "for d = 210, 156, 110, 72, 42, 20, 6"
abbrev pub divisors : List ℕ
divisors = 210 ∷ 156 ∷ 110 ∷ 72 ∷ 42 ∷ 20 ∷ 6 ∷ []

-- "set h = 1.0 - t × h / d (product first)", for each d of the list in turn
unfoldable pub horner : Float → Float → List ℕ → Float
horner t h [] = h
horner t h (d ∷ ds) = horner t (one64 ⊖ t ⊗ h ⊘ whole d) ds

-- "with t = x × x and h = 1.0 .. the result is x × h"
unfoldable pub series : Float → Float
series x = x ⊗ horner (x ⊗ x) one64 divisors

-- "if x ≥ PI subtract PI and flip the sign"
unfoldable pub half_turn : Float → Float
half_turn x = if pi ≤ᶠ x then neg (series (folded (x ⊖ pi))) else series (folded x)

-- "negative x gives minus sine(-x)"
unfoldable pub sine_of : Float → Float
sine_of x = if x <ᶠ zero64 then neg (half_turn (reduced 64 (neg x))) else half_turn (reduced 64 x)

-- "Cosine x = sine(x + TAU/4)"
unfoldable pub cosine_of : Float → Float
cosine_of x = sine_of (x ⊕ quarter)
