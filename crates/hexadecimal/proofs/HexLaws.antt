-- Characters and bytes say each other. Assumes nothing.
use Prim.Native.Nat.{ℕ, zero, suc, ◌+◌, ◌-◌, ◌*◌, ◌/◌, ◌%◌, ◌<◌}
use mathlib.Core.Path.{◌≡◌, refl, ap}
use mathlib.Core.Bool.{Bool, true, false, ◌&&◌, ◌||◌}
use mathlib.Core.List.{List, [], ◌∷◌}
use lib.Dec.{ltb, leb}
use lib.ListN.{length, get_or}
use native.Mathlib.Omega.{arith}
use borrow.Author.Tests.{ltb-true, ltb-false, lt-ltb, le-ltb, le-leb, lt-leb, leb-true}
use Rattle.std.specs.Prelude.{if◌then◌else◌}
use Rattle.hexadecimal.specs.Hex.{hex, all_hex, unhex, digit, hex_line, Bytes}

-- ---- bytes to characters and back
hex-digit-by : (t : Bool) (d : ℕ) → ltb d 10 ≡ t → d < 16 → hex (if t then d + 48 else d + 55) ≡ d
unfolding hex
hex-digit-by true d e h =
    let l = ltb-true d 10 e in
    rw (le-leb 48 (d + 48) (omega arith), le-leb (d + 48) 57 (omega arith)) (omega arith)
hex-digit-by false d e h =
    let l = ltb-false d 10 e in
    rw (le-leb 48 (d + 55) (omega arith), lt-leb (d + 55) 57 (omega arith), le-leb 65 (d + 55) (omega arith), le-leb (d + 55) 70 (omega arith)) (omega arith)

hex-digit : (d : ℕ) → d < 16 → hex (digit d) ≡ d
unfolding digit
hex-digit d h = hex-digit-by (ltb d 10) d refl h

pub unhex-hex_line : (f : List ℕ) → Bytes f → unhex (hex_line f) ≡ f
unfolding unhex hex_line
unhex-hex_line [] h = refl
unhex-hex_line (b ∷ f) h =
    let a = h.0 in
    rw (hex-digit (b / 16) (omega arith), hex-digit (b % 16) (omega arith), unhex-hex_line f h.1)
    (ap (λ (x : ℕ). x ∷ f) (omega arith))

pub all_hex-hex_line : (f : List ℕ) → Bytes f → all_hex (hex_line f) ≡ true
unfolding all_hex hex_line
all_hex-hex_line [] h = refl
all_hex-hex_line (b ∷ f) h =
    let a = h.0 in
    rw (hex-digit (b / 16) (omega arith), hex-digit (b % 16) (omega arith), lt-ltb (b / 16) 16 (omega arith), lt-ltb (b % 16) 16 (omega arith))
    (all_hex-hex_line f h.1)

pub length-hex_line : (f : List ℕ) → length (hex_line f) ≡ 2 * length f
unfolding hex_line
length-hex_line [] = refl
length-hex_line (b ∷ f) = let h = length-hex_line f in omega arith

-- ---- characters to bytes and back
pub length-unhex : (l : List ℕ) → length (unhex l) ≡ length l / 2
unfolding unhex
length-unhex [] = refl
length-unhex (a ∷ []) = refl
length-unhex (a ∷ b ∷ l) = let h = length-unhex l in omega arith

pub and_left : (a b : Bool) → (a && b) ≡ true → a ≡ true
and_left true b e = refl
and_left false b e = e

pub and_right : (a b : Bool) → (a && b) ≡ true → b ≡ true
and_right true b e = e
and_right false b e = cc

pub or-false : (a b : Bool) → (a || b) ≡ false → (a ≡ false) × (b ≡ false)
or-false true b e = absurd (let y : ◌≡◌ {A = ℕ} 0 1 = cc in omega arith)
or-false false b e = (refl, e)

-- two digits more
two_digits : (a b : ℕ) (l : List ℕ) → all_hex (a ∷ b ∷ l) ≡ true → (hex a < 16) × (hex b < 16) × (all_hex l ≡ true)
unfolding all_hex
two_digits a b l e =
    let p = ltb-true (hex a) 16 (and_left _ _ e) in
    let q = and_right (ltb (hex a) 16) (ltb (hex b) 16 && all_hex l) e in
    (p, ltb-true (hex b) 16 (and_left (ltb (hex b) 16) (all_hex l) q), and_right (ltb (hex b) 16) (all_hex l) q)

-- digits say bytes
pub unhex-bytes : (l : List ℕ) → all_hex l ≡ true → Bytes (unhex l)
unfolding unhex
unhex-bytes [] e = tt
unhex-bytes (a ∷ []) e = tt
unhex-bytes (a ∷ b ∷ l) e = let h = two_digits a b l e in (omega arith, unhex-bytes l h.2)

digit-hex-by : (t u : Bool) (c : ℕ) → (leb 48 c && leb c 57) ≡ t → (leb 65 c && leb c 70) ≡ u
    → (if t then c - 48 else (if u then c - 55 else 16)) < 16 → digit (if t then c - 48 else (if u then c - 55 else 16)) ≡ c
unfolding digit
digit-hex-by true u c e f h =
    let p = leb-true 48 c (and_left _ _ e) in
    let q = leb-true c 57 (and_right (leb 48 c) _ e) in
    rw (lt-ltb (c - 48) 10 (omega arith)) (omega arith)
digit-hex-by false true c e f h =
    let p = leb-true 65 c (and_left _ _ f) in
    let q = leb-true c 70 (and_right (leb 65 c) _ f) in
    rw (le-ltb (c - 55) 10 (omega arith)) (omega arith)
digit-hex-by false false c e f h = omega arith

digit-hex : (c : ℕ) → hex c < 16 → digit (hex c) ≡ c
unfolding hex
digit-hex c h = digit-hex-by _ _ c refl refl h

pub hex_line-unhex : (l : List ℕ) → all_hex l ≡ true → length l % 2 ≡ 0 → hex_line (unhex l) ≡ l
unfolding unhex hex_line
hex_line-unhex [] e n = refl
hex_line-unhex (a ∷ []) e n = absurd (omega arith)
hex_line-unhex (a ∷ b ∷ l) e n =
    let h = two_digits a b l e in
    let p : (16 * hex a + hex b) / 16 ≡ hex a = omega arith in
    let q : (16 * hex a + hex b) % 16 ≡ hex b = omega arith in
    rw (p, q, digit-hex a h.0, digit-hex b h.1, hex_line-unhex l h.2 (omega arith)) refl

pub byte_at : (f : List ℕ) (i : ℕ) → Bytes f → get_or f i 0 < 256
byte_at [] i h = omega arith
byte_at (b ∷ f) zero h = h.0
byte_at (b ∷ f) (suc i) h = byte_at f i h.1
