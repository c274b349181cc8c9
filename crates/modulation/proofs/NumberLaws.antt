-- What waits, laid out number by number. Assumes nothing.
use Prim.Native.Nat.{ℕ, suc, ◌+◌, ◌-◌, ◌<◌, ◌≤◌}
use mathlib.Core.Path.{◌≡◌, sym, ap, ◌∙◌}
use mathlib.Core.Bool.{Bool, false}
use mathlib.Core.List.{List, ◌++◌, map}
use native.Mathlib.Nat.{add-zero}
use native.Mathlib.Numerals.{add-one}
use native.Mathlib.Omega.{arith}
use lib.ListN.{length, get_or, set, take, drop, replicate, length-map, length-drop, get_or-map}
use lib.Seq.{take-suc, take-length, set_at, append_snoc, drop-drop, get_or-drop, get_or-take, length-take-le}
use lib.Ieee.{Float}
use Rattle.numeric.specs.F64.{zero64}
use Rattle.modulation.specs.Bits.{most_bits, queued, queued_length, place_after}
use Rattle.modulation.specs.ModulatorRep.{pending_in}
use Rattle.modulation.specs.Numbers.{places_for, mark_number}

-- ---- the first i of a list, and 0.0 in the places behind them
abbrev pub filled : ℕ → List Float → ℕ → List Float
filled most xs i = take i xs ++ replicate (most - i) zero64

pub filled-step : (most i : ℕ) (xs a : List Float) (x z : Float) → length xs ≤ most → i < length xs → a ≡ filled most xs i → x ≡ get_or xs i z → set a i x ≡ filled most xs (i + 1)
filled-step most i xs a x z few some is x-is =
    let left : most - i ≡ suc (most - (i + 1)) = omega arith in
    rw (is, x-is, left, add-one i, take-suc xs i z some)
    (set_at (take i xs) zero64 (replicate (most - suc i) zero64) (get_or xs i z) i (length-take-le i xs (omega arith))
    ∙ sym (append_snoc (take i xs) (get_or xs i z) (replicate (most - suc i) zero64)))

pub filled-end : (most i : ℕ) (xs a : List Float) → i ≡ length xs → a ≡ filled most xs i → a ≡ places_for most xs
filled-end most i xs a all is = is ∙ rw (all, take-length xs)

-- ---- the bits of a ring: i are laid out, and the next stands at a place of it
pub bits-long : (ring : List Bool) (head n : ℕ) → length (map mark_number (queued ring head n)) ≡ n
bits-long ring head n = length-map (queued ring head n) mark_number ∙ queued_length ring head n

module _ (ring : List Bool) (head n at i : ℕ) (some : i < n) (rest : drop i (queued ring head n) ≡ queued ring at (n - i)) where
  left : drop i (queued ring head n) ≡ queued ring at (suc (n - (i + 1)))
  left = let one : n - i ≡ suc (n - (i + 1)) = omega arith in rest ∙ ap (queued ring at) one

  next_bit : get_or (queued ring head n) i false ≡ get_or ring at false
  unfolding queued
  next_bit = sym (get_or-drop i (queued ring head n) 0 false ∙ rw (add-zero i)) ∙ ap (λ (l : List Bool). get_or l 0 false) left

  pub bits-rest : (at' : ℕ) → at' ≡ place_after at → drop (i + 1) (queued ring head n) ≡ queued ring at' (n - (i + 1))
  unfolding queued
  bits-rest at' is = rw is (sym (drop-drop 1 i (queued ring head n)) ∙ ap (λ (l : List Bool). drop 1 l) left)

  pub bits-step : (a : List Float) (x : Float) → n ≤ most_bits → a ≡ filled most_bits (map mark_number (queued ring head n)) i → x ≡ mark_number (get_or ring at false)
      → set a i x ≡ filled most_bits (map mark_number (queued ring head n)) (i + 1)
  bits-step a x few is x-is =
      let long = bits-long ring head n in
      filled-step most_bits i (map mark_number (queued ring head n)) a x zero64 (omega (arith, long)) (omega (arith, long, some)) is
      (x-is ∙ ap mark_number (sym next_bit) ∙ sym (get_or-map mark_number (queued ring head n) i false))

-- ---- the samples of an array
module _ (l : List Float) (from upto : ℕ) (ordered : from ≤ upto) (room : upto ≤ length l) where
  pub samples-long : length (pending_in l from upto) ≡ upto - from
  samples-long = length-take-le (upto - from) (drop from l) (rw (length-drop) (omega arith))

  pub samples-step : (i : ℕ) (a : List Float) (x z : Float) → i < upto - from → upto ≤ 64 → a ≡ filled 64 (pending_in l from upto) i → x ≡ get_or l (from + i) z
      → set a i x ≡ filled 64 (pending_in l from upto) (i + 1)
  samples-step i a x z some few is x-is =
      filled-step 64 i (pending_in l from upto) a x z (omega (arith, samples-long)) (omega (arith, samples-long)) is
      (x-is ∙ sym (get_or-take (upto - from) (drop from l) i z some ∙ get_or-drop from l i z))
