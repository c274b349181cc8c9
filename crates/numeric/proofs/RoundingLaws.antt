-- The law behind "Round and ceil to `usize` are whole-number divisions": a product of whole numbers divided by a third, in f64, and then
-- rounded, is the division in whole numbers so rounded, where product and divisor are below 2 ^ 50. Assumes nothing.
use Rattle.std.proofs.Common.{◌≡◌, ℕ, zero, suc, ◌+◌, ◌-◌, ◌*◌, ◌/◌, ◌^◌, ◌<◌, ◌≤◌, min, true, false, T, sym, refl, ap, ◌∙◌, zero-le, le_trans, le_of_eq, le_refl, lt_of_lt_of_le, lt_of_le_of_lt, le_of_lt, mul-le-mul_right, zero-lt-suc, mul_assoc, suc-mul, add-mul, lt_of_mul-lt-mul_right, mul-le-mul_left, mul-lt-mul_of_pos_right, mul-pos, one-mul, zero-mul, mul-one, mul_right_comm, div-mul-le_self, mul_left_comm, arith, lit≤, pow_pos}
use native.Mathlib.Nat.{div-eq_of_lt-le, lt-div-mul-add, pow-succ'}
use lib.Ieee.{Float, nan, inf, fin, binary64, size, round}
use lib.Ieee.Digits.{size-lt, size_reaches, size-le}
use lib.Ieee.Positive.{num, den, den_pos}
use Rattle.numeric.specs.F64.{◌⊗◌, ◌⊘◌, whole}
use Rattle.numeric.proofs.Whole.{mul-whole, div-whole}
use Rattle.numeric.specs.Bounds.{non_negative, AtMost, AtLeast}
use Rattle.numeric.proofs.BoundLaws.{round-at-most, round-at-least}
use Rattle.numeric.specs.Rounding.{round_usize, ceil_usize}

-- ---- of a number with no minus sign
round_usize-is : (x : Float) → T (non_negative x) → round_usize x ≡ min ((2 * num x + den x) / (2 * den x)) (2 ^ 64 - 1)
unfolding round_usize
round_usize-is nan p = absurd p
round_usize-is (inf s) p = absurd p
round_usize-is (fin true m e) p = absurd p
round_usize-is (fin false m e) p = refl

ceil_usize-is : (x : Float) → T (non_negative x) → ceil_usize x ≡ min ((num x + den x - 1) / den x) (2 ^ 64 - 1)
unfolding ceil_usize
ceil_usize-is nan p = absurd p
ceil_usize-is (inf s) p = absurd p
ceil_usize-is (fin true m e) p = absurd p
ceil_usize-is (fin false m e) p = refl

not-capped : (a j : ℕ) → a ≡ j → j < 2 ^ 53 → min a (2 ^ 64 - 1) ≡ j
not-capped a j e h = omega arith

-- ---- small arithmetic
odd-times : (j d : ℕ) → (2 * j + 1) * d ≡ 2 * (j * d) + d
odd-times j d = add-mul (2 * j) 1 d ∙ ap (λ (x : ℕ). x + 1 * d) (mul_assoc 2 j d) ∙ ap (λ (x : ℕ). 2 * (j * d) + x) (one-mul d)

next-times : (j d : ℕ) → (j + 1) * d ≡ j * d + d
next-times j d = add-mul j 1 d ∙ ap (λ (x : ℕ). j * d + x) (one-mul d)

pred-times : (x d : ℕ) → 0 < x → (x - 1) * d + d ≡ x * d
pred-times x d h = sym (next-times (x - 1) d) ∙ ap (λ (y : ℕ). y * d) (back x h)
  where
    back : (x : ℕ) → 0 < x → x - 1 + 1 ≡ x
    back x h = omega arith

pred_lt : (x : ℕ) → 0 < x → x - 1 < x
pred_lt x h = omega arith

odd_pos : (j : ℕ) → 0 < 2 * j + 1
odd_pos j = omega arith

twice-pos : (j : ℕ) → 0 < j → 0 < 2 * j
twice-pos j h = omega arith

-- D ≤ 2 ^ s ≤ 2 D
fitting : (D : ℕ) → 0 < D → (D ≤ 2 ^ size D) × (2 ^ size D ≤ 2 * D)
fitting D p = (le_of_lt (size-lt D), go (size D) (size_reaches D) (size-lt D))
  where
    none : (D : ℕ) → 0 < D → D < 1 → ⊥
    none D p h = omega arith

    go : (z : ℕ) → ((j : ℕ) → j < z → 2 ^ j ≤ D) → D < 2 ^ z → 2 ^ z ≤ 2 * D
    go zero r h = absurd (none D p h)
    go (suc z) r h = le_trans (le_of_eq (pow-succ' 2 z)) (mul-le-mul_left 2 (r z (le_refl (suc z))))

-- ---- a value between j - 1/2 and j + 1/2 (not reached) is rounded to j
-- at most (j + 1/2) - 1 / 2 ^ (s + 1), and, where j is not 0, at least j - 1/2
pub rounds-to : (x : Float) (j s : ℕ) → j < 2 ^ 53 → AtMost x ((2 * j + 1) * 2 ^ s - 1) (2 ^ suc s) → (0 < j → AtLeast x (2 * j - 1) (2 ^ 1)) → round_usize x ≡ j
rounds-to x j s J u o =
    round_usize-is x u.is
    ∙ not-capped _ j
    (div-eq_of_lt-le (2 * den x)
    (le_trans (le_of_eq (mul_left_comm j 2 (den x))) (low j o))
    (lt_of_lt_of_le (high (num x) (den x) (j * den x) (den_pos x) below) (le_of_eq (sym (next-times j (2 * den x) ∙ ap (λ (y : ℕ). y + 2 * den x) (mul_left_comm j 2 (den x)))))))
    J
  where
    low-at : (a d y z : ℕ) → y + d ≡ 2 * z → y ≤ a * 2 → 2 * z ≤ 2 * a + d
    low-at a d y z e h = omega arith

    low : (j : ℕ) → (0 < j → AtLeast x (2 * j - 1) (2 ^ 1)) → 2 * (j * den x) ≤ 2 * num x + den x
    low zero o = le_trans (le_of_eq (ap (λ (y : ℕ). 2 * y) (zero-mul (den x)))) zero-le
    low (suc i) o = low-at (num x) (den x) ((2 * suc i - 1) * den x) (suc i * den x) (pred-times (2 * suc i) (den x) (twice-pos (suc i) (zero-lt-suc i)) ∙ mul_assoc 2 (suc i) (den x)) (o (zero-lt-suc i)).over

    high : (a d y : ℕ) → 0 < d → 2 * a < 2 * y + d → 2 * a + d < 2 * y + 2 * d
    high a d y p h = omega arith

    below : 2 * num x < 2 * (j * den x) + den x
    below =
        let z = (2 * j + 1) * 2 ^ s in
        let w : num x * 2 ^ suc s < z * den x = lt_of_le_of_lt u.under (mul-lt-mul_of_pos_right (pred_lt z (mul-pos (odd_pos j) (pow_pos s))) (den_pos x)) in
        lt_of_lt_of_le
        (lt_of_mul-lt-mul_right (2 ^ s)
        (lt_of_le_of_lt (le_of_eq (mul_assoc 2 (num x) (2 ^ s) ∙ mul_left_comm 2 (num x) (2 ^ s) ∙ ap (λ (y : ℕ). num x * y) (sym (pow-succ' 2 s))))
        (lt_of_lt_of_le w (le_of_eq (mul_right_comm (2 * j + 1) (2 ^ s) (den x))))))
        (le_of_eq (odd-times j (den x)))

-- P / D is below j + 1/2, and so at least 1 / 2 D below it
clear-of-half : (P D j S : ℕ) → 0 < S → D ≤ S → 2 * P < 2 * (j * D) + D → P * (2 * S) ≤ ((2 * j + 1) * S - 1) * D
clear-of-half P D j S p l h =
    let x = (2 * j + 1) * S in
    let w : suc (2 * P) * S ≤ (2 * j + 1) * D * S = mul-le-mul_right S (le_trans h (le_of_eq (sym (odd-times j D)))) in
    meet (P * (2 * S)) S D (x * D) ((x - 1) * D)
    (le_trans (le_of_eq (one_more P S)) (le_trans w (le_of_eq (mul_right_comm (2 * j + 1) D S)))) l (pred-times x D (mul-pos (odd_pos j) p))
  where
    one_more : (P S : ℕ) → P * (2 * S) + S ≡ suc (2 * P) * S
    one_more P S = ap (λ (y : ℕ). y + S) (mul_left_comm P 2 S ∙ sym (mul_assoc 2 P S)) ∙ sym (suc-mul (2 * P) S)

    meet : (a S D b c : ℕ) → a + S ≤ b → D ≤ S → c + D ≡ b → a ≤ c
    meet a S D b c h l e = omega arith

pub round-fraction : (P D : ℕ) → 0 < D → P < 2 ^ 50 → D < 2 ^ 50 → round_usize (round binary64 false P D) ≡ (2 * P + D) / (2 * D)
round-fraction P D p h l =
    let j = (2 * P + D) / (2 * D) in
    let s = size D in
    let f = fitting D p in
    let lo : 2 * (j * D) ≤ 2 * P + D = le_trans (le_of_eq (sym (mul_left_comm j 2 D))) (div-mul-le_self (2 * P + D) (2 * D)) in
    let hi : 2 * P < 2 * (j * D) + D = below P D (j * (2 * D)) (j * D) (mul_left_comm j 2 D) (lt-div-mul-add (mul-pos (zero-lt-suc 1) p)) in
    let j-le : j ≤ j * D = le_trans (le_of_eq (sym (mul-one j))) (mul-le-mul_left j p) in
    let q : (2 * j + 1) * 2 ^ s ≤ 2 ^ 53 =
    le_trans (mul-le-mul_left (2 * j + 1) f.1) (le_trans (le_of_eq (mul_left_comm (2 * j + 1) 2 D ∙ ap (λ (x : ℕ). 2 * x) (odd-times j D))) (room P D (j * D) lo h l)) in
    let u : AtMost (round binary64 false P D) ((2 * j + 1) * 2 ^ s - 1) (2 ^ suc s) =
    round-at-most P D ((2 * j + 1) * 2 ^ s - 1) (suc s) p (lt_of_lt_of_le (pred_lt ((2 * j + 1) * 2 ^ s) (mul-pos (odd_pos j) (pow_pos s))) q) (places D l)
    (le_trans (le_of_eq (ap (λ (x : ℕ). P * x) (pow-succ' 2 s))) (clear-of-half P D j (2 ^ s) (pow_pos s) f.0 hi)) in
    rounds-to (round binary64 false P D) j s (few j (j * D) P D j-le lo h l) u
    (λ z. round-at-least P D (2 * j - 1) 1 p (few-halves j (j * D) P D j-le lo h l) (lit≤ tt) u.is
    (at_least P D j ((2 * j - 1) * D) (pred-times (2 * j) D (twice-pos j z) ∙ mul_assoc 2 j D) lo))
  where
    below : (P D x y : ℕ) → x ≡ 2 * y → 2 * P + D < x + 2 * D → 2 * P < 2 * y + D
    below P D x y e h = omega arith

    room : (P D y : ℕ) → 2 * y ≤ 2 * P + D → P < 2 ^ 50 → D < 2 ^ 50 → 2 * (2 * y + D) ≤ 2 ^ 53
    room P D y a b c = omega arith

    few : (j y P D : ℕ) → j ≤ y → 2 * y ≤ 2 * P + D → P < 2 ^ 50 → D < 2 ^ 50 → j < 2 ^ 53
    few j y P D a b c d = omega arith

    few-halves : (j y P D : ℕ) → j ≤ y → 2 * y ≤ 2 * P + D → P < 2 ^ 50 → D < 2 ^ 50 → 2 * j - 1 < 2 ^ 53
    few-halves j y P D a b c d = omega arith

    places : (D : ℕ) → D < 2 ^ 50 → suc (size D) ≤ 1074
    places D l = omega (arith, size-le D 50 l)

    at_least : (P D j x : ℕ) → x + D ≡ 2 * (j * D) → 2 * (j * D) ≤ 2 * P + D → x ≤ P * 2 ^ 1
    at_least P D j x e h = omega arith

-- ---- a value above j - 1 and up to j is rounded up to j
pub ceils-to : (x : Float) (j s : ℕ) → j < 2 ^ 53 → AtMost x j (2 ^ 0) → (0 < j → AtLeast x ((j - 1) * 2 ^ s + 1) (2 ^ s)) → ceil_usize x ≡ j
ceils-to x j s J u o =
    ceil_usize-is x u.is
    ∙ not-capped _ j
    (div-eq_of_lt-le (den x) (low j o)
    (lt_of_lt_of_le (high (num x) (den x) (j * den x) (den_pos x) (le_trans (le_of_eq (sym (mul-one (num x)))) u.under)) (le_of_eq (sym (next-times j (den x))))))
    J
  where
    high : (a d y : ℕ) → 0 < d → a ≤ y → a + d - 1 < y + d
    high a d y p h = omega arith

    low-at : (a d y z : ℕ) → z < a → z + d ≡ y → y ≤ a + d - 1
    low-at a d y z h e = omega arith

    more : (y z d : ℕ) → 0 < d → y + d ≤ z → y < z
    more y z d p h = omega arith

    scaled : (i : ℕ) → i * den x * 2 ^ s + den x ≡ (i * 2 ^ s + 1) * den x
    scaled i = ap (λ (y : ℕ). y + den x) (mul_right_comm i (den x) (2 ^ s)) ∙ sym (next-times (i * 2 ^ s) (den x))

    low : (j : ℕ) → (0 < j → AtLeast x ((j - 1) * 2 ^ s + 1) (2 ^ s)) → j * den x ≤ num x + den x - 1
    low zero o = le_trans (le_of_eq (zero-mul (den x))) zero-le
    low (suc i) o =
        low-at (num x) (den x) (suc i * den x) ((suc i - 1) * den x)
        (lt_of_mul-lt-mul_right (2 ^ s) (more ((suc i - 1) * den x * 2 ^ s) (num x * 2 ^ s) (den x) (den_pos x) (le_trans (le_of_eq (scaled (suc i - 1))) (o (zero-lt-suc i)).over)))
        (pred-times (suc i) (den x) (zero-lt-suc i))

pub ceil-fraction : (P D : ℕ) → 0 < D → P < 2 ^ 50 → D < 2 ^ 50 → ceil_usize (round binary64 false P D) ≡ (P + D - 1) / D
ceil-fraction P D p h l =
    let j = (P + D - 1) / D in
    let s = size D in
    let f = fitting D p in
    let lo : j * D ≤ P + D - 1 = div-mul-le_self (P + D - 1) D in
    let hi : P ≤ j * D = below P D (j * D) (lt-div-mul-add p) in
    let j-lt : j < 2 ^ 53 = few j (j * D) P D (le_trans (le_of_eq (sym (mul-one j))) (mul-le-mul_left j p)) lo h l in
    let u : AtMost (round binary64 false P D) j (2 ^ 0) = round-at-most P D j 0 p j-lt (lit≤ tt) (le_trans (le_of_eq (mul-one P)) hi) in
    ceils-to (round binary64 false P D) j s j-lt u
    (λ z.
    let y = (j - 1) * D in
    let e : y + D ≡ j * D = pred-times j D z in
    let w : (y + 1) * 2 ^ s ≤ P * 2 ^ s = mul-le-mul_right (2 ^ s) (next P D y (j * D) p e lo) in
    round-at-least P D ((j - 1) * 2 ^ s + 1) s p
    (lt_of_le_of_lt (raise ((j - 1) * 2 ^ s) (2 * y) (le_trans (mul-le-mul_left (j - 1) f.1) (le_of_eq (mul_left_comm (j - 1) 2 D)))) (room P D y (j * D) p e lo h))
    (le_trans (size-le D 50 l) (lit≤ tt)) u.is
    (le_trans (le_of_eq (next-times ((j - 1) * 2 ^ s) D ∙ ap (λ (x : ℕ). x + D) (mul_right_comm (j - 1) (2 ^ s) D)))
    (meet (y * 2 ^ s) D (2 ^ s) (P * 2 ^ s) f.0 (le_trans (le_of_eq (sym (next-times y (2 ^ s)))) w))))
  where
    below : (P D x : ℕ) → P + D - 1 < x + D → P ≤ x
    below P D x h = omega arith

    few : (j y P D : ℕ) → j ≤ y → y ≤ P + D - 1 → P < 2 ^ 50 → D < 2 ^ 50 → j < 2 ^ 53
    few j y P D a b c d = omega arith

    next : (P D y x : ℕ) → 0 < D → y + D ≡ x → x ≤ P + D - 1 → y + 1 ≤ P
    next P D y x p e h = omega arith

    raise : (a b : ℕ) → a ≤ b → a + 1 ≤ b + 1
    raise a b h = omega arith

    room : (P D y x : ℕ) → 0 < D → y + D ≡ x → x ≤ P + D - 1 → P < 2 ^ 50 → 2 * y + 1 < 2 ^ 53
    room P D y x p e h l = omega arith

    meet : (a D S b : ℕ) → D ≤ S → a + S ≤ b → a + D ≤ b
    meet a D S b l h = omega arith

-- ---- a product of whole numbers divided by a third: the product is exact, so only the quotient is rounded
pub ratio-is : (a b c : ℕ) → a ≤ 2 ^ 53 → b ≤ 2 ^ 53 → 0 < c → c ≤ 2 ^ 53 → a * b ≤ 2 ^ 53 → whole a ⊗ whole b ⊘ whole c ≡ round binary64 false (a * b) c
ratio-is a b c A B p C AB = ap (λ (x : Float). x ⊘ whole c) (mul-whole a b A B) ∙ div-whole (a * b) c p AB C

module _ (a b c : ℕ) (A : a ≤ 2 ^ 50) (B : b ≤ 2 ^ 50) (p : 0 < c) (C : c < 2 ^ 50) (AB : a * b < 2 ^ 50) where
  ratio : whole a ⊗ whole b ⊘ whole c ≡ round binary64 false (a * b) c
  ratio = ratio-is a b c (le_trans A (lit≤ tt)) (le_trans B (lit≤ tt)) p (le_trans (le_of_lt C) (lit≤ tt)) (le_trans (le_of_lt AB) (lit≤ tt))

  pub round-ratio : round_usize (whole a ⊗ whole b ⊘ whole c) ≡ (2 * (a * b) + c) / (2 * c)
  round-ratio = ap round_usize ratio ∙ round-fraction (a * b) c p AB C

  pub ceil-ratio : ceil_usize (whole a ⊗ whole b ⊘ whole c) ≡ (a * b + c - 1) / c
  ceil-ratio = ap ceil_usize ratio ∙ ceil-fraction (a * b) c p AB C
