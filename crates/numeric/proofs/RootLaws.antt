-- The sum of two squares has no minus sign, so half its bits and 1FF8000000000000 are the bits of a number; its root where it is above 0.0,
-- and where it is a NaN. Assumes nothing.
use Rattle.std.proofs.Common.{◌≡◌, ℕ, suc, ◌+◌, ◌-◌, ◌≤◌, ◌*◌, ◌/◌, ◌^◌, ◌<◌, Bool, true, false, not, ◌&&◌, T, eqb, ltb, sym, refl, ap, ◌∙◌, subst, true≢false, arith, ltb-true, ne_eqb}
use mathlib.Core.Bool.{false≢true}
use lib.Ieee.{Float, nan, inf, fin, Format, binary64, nan_bits, add, mul, ne, lt, eq, sum, up, down, of_bits, to_bits, div}
use lib.Ieee.Compare.{differs_from_itself}
use lib.Ieee.Fits.{add-fits}
use Rattle.numeric.specs.F64.{◌⊕◌, ◌⊗◌, ◌⊘◌, half64, ◌<ᶠ◌, ◌=ᶠ◌, bits, zero64}
use Rattle.numeric.proofs.Whole.{no_minus, round-no_minus, not-nan}
use Rattle.numeric.specs.Root.{squares, guess, improved, root_of}
use Rattle.numeric.proofs.Bits.{number-bits, bits-lt}

square-no_minus : (f : Format) (x : Float) → T (no_minus (mul f x x))
unfolding mul
square-no_minus f nan = tt
square-no_minus f (inf true) = tt
square-no_minus f (inf false) = tt
square-no_minus f (fin true m e) = round-no_minus f _ _
square-no_minus f (fin false m e) = round-no_minus f _ _

add-no_minus : (f : Format) (x y : Float) → T (no_minus x) → T (no_minus y) → T (no_minus (add f x y))
unfolding add sum
add-no_minus f nan y p q = tt
add-no_minus f (inf s) nan p q = tt
add-no_minus f (inf true) (inf t) p q = absurd p
add-no_minus f (inf false) (inf true) p q = absurd q
add-no_minus f (inf false) (inf false) p q = tt
add-no_minus f (inf s) (fin t n d) p q = p
add-no_minus f (fin s m e) nan p q = tt
add-no_minus f (fin s m e) (inf t) p q = q
add-no_minus f (fin true m e) (fin t n d) p q = absurd p
add-no_minus f (fin false m e) (fin true n d) p q = absurd q
add-no_minus f (fin false m e) (fin false n d) p q = round-no_minus f _ _

pub squares-lt : (a b : Float) → ne (squares a b) (squares a b) ≡ false → bits (squares a b) < 2 ^ 63
squares-lt a b h =
    bits-lt (squares a b) (add-fits binary64 (a ⊗ a) (b ⊗ b)) (add-no_minus binary64 (a ⊗ a) (b ⊗ b) (square-no_minus binary64 a) (square-no_minus binary64 b)) (not-nan (squares a b) h)

pub guess-number : (n : ℕ) → n < 2 ^ 63 → T (not (nan_bits binary64 (n / 2 + 0x1FF8_0000_0000_0000)))
guess-number n h = number-bits binary64 (n / 2 + 0x1FF8_0000_0000_0000) (omega arith)

-- ---- above 0.0
nan-not-above : zero64 <ᶠ nan ≡ false
unfolding lt of_bits
nan-not-above = refl

number_by : (v : Float) (t : Bool) → ne v v ≡ t → zero64 <ᶠ v ≡ true → t ≡ false
number_by v false e h = refl
number_by v true e h =
    let n : v ≡ nan = differs_from_itself v (subst T (sym e) tt) in
    absurd (true≢false (sym h ∙ ap (λ (x : Float). zero64 <ᶠ x) n ∙ nan-not-above))

-- it is a number
pub above-number : (v : Float) → zero64 <ᶠ v ≡ true → ne v v ≡ false
above-number v h = number_by v (ne v v) refl h

unlike : (a d : ℕ) (b : Bool) → ltb (0 * d) a ≡ true → (eqb a (0 * d) && b) ≡ false
unlike a d b h = rw (ne_eqb a (0 * d) (λ e. omega (arith, ltb-true (0 * d) a h, e)))

-- it is not 0.0
pub above-not-zero : (v : Float) → zero64 <ᶠ v ≡ true → v =ᶠ zero64 ≡ false
unfolding lt eq of_bits
above-not-zero nan h = refl
above-not-zero (inf s) h = refl
above-not-zero (fin true m e) h = absurd (false≢true h)
above-not-zero (fin false m e) h = unlike (m * up e * 1) (down e) _ h

-- what the first guess asks, and the root after five steps from it
module _ (a b : Float) (h : zero64 <ᶠ squares a b ≡ true) where
  pub guess-asks : (ne (squares a b) (squares a b) ≡ false) × (bits (squares a b) < 2 ^ 63)
  guess-asks = let n = above-number (squares a b) h in (n, squares-lt a b n)

  pub root-above : (g : Float) → g ≡ guess (squares a b) → improved 5 (squares a b) g ≡ root_of a b
  unfolding root_of
  root-above g e = rw (e, above-not-zero (squares a b) h)

-- ---- step by step
module _ (i : ℕ) (v g : Float) where
  pub improved-more : i < 5 → improved (5 - (i + 1)) v (half64 ⊗ (g ⊕ v ⊘ g)) ≡ improved (5 - i) v g
  unfolding improved
  improved-more h = rw next
    where
      next : 5 - i ≡ suc (5 - (i + 1))
      next = omega arith

  pub improved-end : 5 ≤ i → improved (5 - i) v g ≡ g
  unfolding improved
  improved-end h = rw none
    where
      none : 5 - i ≡ 0
      none = omega arith

-- The bits of a NaN are of no matter: the first step gives a NaN again.
pub improved-nan : improved 5 nan (guess nan) ≡ nan
unfolding improved of_bits to_bits div add mul
improved-nan = refl
