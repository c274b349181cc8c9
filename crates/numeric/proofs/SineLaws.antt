-- Document 01's sine: a quarter turn, and whole turns taken off one by one. Assumes nothing.
use Rattle.std.proofs.Common.{◌≡◌, ℕ, zero, suc, ◌-◌, ◌<◌, true, false, refl, ap, arith}
use lib.Ieee.{Float}
use Rattle.numeric.specs.F64.{◌⊖◌, ◌⊘◌, ◌≤ᶠ◌, f64, zero64, two64, tau, pi}
use Rattle.numeric.specs.Sine.{quarter, reduced}

pub quarter-pi : pi ⊘ two64 ≡ quarter
unfolding lib.Ieee.of_bits lib.Ieee.div
quarter-pi = refl

pub quarter-tau : tau ⊘ f64 0x4010_0000_0000_0000 ≡ quarter
unfolding lib.Ieee.of_bits lib.Ieee.div
quarter-tau = refl

-- ---- `reduced`, turn by turn
pub reduced-stop : (n : ℕ) (x : Float) → tau ≤ᶠ x ≡ false → reduced n x ≡ x
unfolding reduced
reduced-stop zero x h = rw h
reduced-stop (suc n) x h = rw h

pub reduced-end : (x : Float) → tau ≤ᶠ x ≡ true → reduced 0 x ≡ zero64
unfolding reduced
reduced-end x h = rw h

pub reduced-more : (n : ℕ) (x : Float) → 0 < n → tau ≤ᶠ x ≡ true → reduced n x ≡ reduced (n - 1) (x ⊖ tau)
unfolding reduced
reduced-more zero x p h = absurd (omega arith)
reduced-more (suc n) x p h = rw h (ap (λ (k : ℕ). reduced k (x ⊖ tau)) (back n))
  where
    back : (n : ℕ) → n ≡ suc n - 1
    back n = omega arith
