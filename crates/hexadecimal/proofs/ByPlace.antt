-- What characters say, place by place: a byte, the sum. Assumes nothing.
use Prim.Native.Nat.{ℕ, zero, suc, ◌+◌, ◌-◌, ◌*◌, ◌/◌, ◌≤◌, ◌<◌}
use mathlib.Core.Path.{◌≡◌, refl}
use mathlib.Core.Bool.{Bool, true, false, ◌&&◌}
use mathlib.Core.List.{List, [], ◌∷◌}
use lib.Dec.{leb}
use lib.ListN.{length, get_or, drop}
use lib.Seq.{drop-cons, drop-length}
use native.Mathlib.Numerals.{add-one}
use native.Mathlib.Omega.{arith}
use borrow.Author.Tests.{leb-true}
use Rattle.std.specs.Prelude.{if◌then◌else◌}
use Rattle.hexadecimal.specs.Hex.{hex, unhex, total}
use Rattle.hexadecimal.proofs.HexLaws.{and_right}

-- ---- a byte at its place
pub unhex-at : (l : List ℕ) (i : ℕ) → 2 * i + 1 < length l → get_or (unhex l) i 0 ≡ 16 * hex (get_or l (2 * i) 0) + hex (get_or l (2 * i + 1) 0)
unfolding unhex
unhex-at [] i h = omega arith
unhex-at (a ∷ []) i h = omega arith
unhex-at (a ∷ b ∷ l) zero h = refl
unhex-at (a ∷ b ∷ l) (suc i) h =
    let e : 2 * suc i ≡ suc (suc (2 * i)) = omega arith in
    let f : suc (suc (2 * i)) + 1 ≡ suc (suc (2 * i + 1)) = omega arith in
    let g : 2 * i + 1 < length l = omega arith in
    rw (e, f) (unhex-at l i g)

pub unhex-past : (l : List ℕ) (i : ℕ) → length l / 2 ≤ i → get_or (unhex l) i 0 ≡ 0
unfolding unhex
unhex-past [] i h = refl
unhex-past (a ∷ []) i h = refl
unhex-past (a ∷ b ∷ l) zero h = absurd (omega arith)
unhex-past (a ∷ b ∷ l) (suc i) h = unhex-past l i (omega arith)

-- a character is worth 16 at most
most-by : (t u : Bool) (c : ℕ) → (leb 48 c && leb c 57) ≡ t → (leb 65 c && leb c 70) ≡ u
    → (if t then c - 48 else (if u then c - 55 else 16)) ≤ 16
most-by true u c e f = let q = leb-true c 57 (and_right (leb 48 c) _ e) in omega arith
most-by false true c e f = let q = leb-true c 70 (and_right (leb 65 c) _ f) in omega arith
most-by false false c e f = omega arith

pub hex-most : (c : ℕ) → hex c ≤ 16
unfolding hex
hex-most c = most-by _ _ c refl refl

-- ---- the sum from a place on
pub total-step : (f : List ℕ) (i : ℕ) → i < length f → total (drop i f) ≡ get_or f i 0 + total (drop (i + 1) f)
unfolding total
total-step f i h = rw (add-one i, drop-cons f i 0 h) refl

pub total-end : (f : List ℕ) (i : ℕ) → i ≡ length f → total (drop i f) ≡ 0
unfolding total
total-end f i e = rw (e, drop-length f) refl
