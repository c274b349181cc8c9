-- The place of the first wrong digit, or none: it is as said, nothing else is as said, and none means that all are digits. Assumes nothing.
use Prim.Native.Nat.{ℕ, zero, suc, ◌<◌}
use mathlib.Core.Path.{◌≡◌, refl}
use mathlib.Core.Bool.{Bool, true, false, ◌&&◌}
use mathlib.Core.List.{List, [], ◌∷◌}
use lib.Dec.{ltb}
use lib.ListN.{length, get_or, take}
use native.Mathlib.Omega.{arith}
use borrow.Author.Tests.{lt-ltb, le-ltb, ltb-false}
use Rattle.std.specs.Prelude.{if◌then◌else◌, Option, Some, None}
use Rattle.hexadecimal.specs.Hex.{hex, all_hex, further, first_wrong, is_none, Says}
use Rattle.hexadecimal.proofs.HexLaws.{and_left, and_right}
use Rattle.hexadecimal.proofs.ByPlace.{hex-most}

-- ---- what the definition answers is as said
says-by : (t : Bool) (c : ℕ) (l : List ℕ) (d : Option ℕ) → ltb (hex c) 16 ≡ t → Says l d → Says (c ∷ l) (if t then further d else Some 0)
unfolding all_hex
says-by true c l None e h = rw e h
says-by true c l (Some p) e h = (omega (arith, h.0), rw e h.1, h.2)
says-by false c l d e h = (omega arith, refl, omega (arith, ltb-false (hex c) 16 e, hex-most c))

pub says : (l : List ℕ) → Says l (first_wrong l)
unfolding first_wrong all_hex
says [] = refl
says (c ∷ l) = says-by _ c l (first_wrong l) refl (says l)

-- ---- and no other answer is
pub only : (l : List ℕ) (d : Option ℕ) → Says l d → d ≡ first_wrong l
unfolding first_wrong all_hex
only [] None h = refl
only [] (Some p) h = absurd (omega (arith, h.0))
only (c ∷ l) None h = rw (and_left (ltb (hex c) 16) _ h, ← only l None (and_right (ltb (hex c) 16) _ h)) refl
only (c ∷ l) (Some zero) h = rw (le-ltb (hex c) 16 (omega (arith, h.2))) refl
only (c ∷ l) (Some (suc p)) h =
    rw (and_left (ltb (hex c) 16) _ h.1, ← only l (Some p) (omega (arith, h.0), and_right (ltb (hex c) 16) _ h.1, h.2)) refl

-- ---- all digits is none wrong
none-by : (t : Bool) (d : Option ℕ) (b : Bool) → b ≡ is_none d → (t && b) ≡ is_none (if t then further d else Some 0)
none-by true None b e = e
none-by true (Some p) b e = e
none-by false d b e = refl

none : (l : List ℕ) → all_hex l ≡ is_none (first_wrong l)
unfolding first_wrong all_hex
none [] = refl
none (c ∷ l) = none-by (ltb (hex c) 16) (first_wrong l) (all_hex l) (none l)

-- what a caller of the test learns
pub all_none : (l : List ℕ) (d : Option ℕ) → d ≡ first_wrong l → all_hex l ≡ is_none d
all_none l d e = rw e (none l)

-- ---- the walk: a digit more
pub take-digit : (l : List ℕ) (i : ℕ) → i < length l → hex (get_or l i 0) < 16 → all_hex (take i l) ≡ true → all_hex (take (suc i) l) ≡ true
unfolding all_hex
take-digit [] i h b e = absurd (omega arith)
take-digit (c ∷ l) zero h b e = rw (lt-ltb (hex c) 16 b) refl
take-digit (c ∷ l) (suc i) h b e =
    rw (and_left (ltb (hex c) 16) _ e) (take-digit l i (omega arith) b (and_right (ltb (hex c) 16) _ e))
