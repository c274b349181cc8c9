-- Bounds on floats with no minus sign, in units of 2 ^ -t. They add and multiply without loss, since each whole number of units below
-- 2 ^ 53 is an f64 and rounding keeps the order. Assumes nothing.
use Rattle.std.proofs.Common.{◌≡◌, ℕ, ◌+◌, ◌-◌, ◌*◌, ◌^◌, ◌<◌, ◌≤◌, true, false, T, sym, ap, ◌∙◌, subst, le_trans, le_of_eq, lt_of_lt_of_le, add-le-add, mul-le-mul_right, mul_assoc, mul_comm, add-mul, mul-le-mul, mul-le-mul_left, mul-lt-mul_of_pos_right, mul-pos, mul_right_comm, arith, lit≤, leb→le, pow_pos, pow_mono, pow-add}
use native.Mathlib.Nat.{mul-mul-mul_comm}
use lib.Ieee.{Float, nan, inf, fin, binary64, round, le, lt, eq}
use lib.Ieee.Exact.{HasValue, round_exact}
use lib.Ieee.Order.{round_mono}
use lib.Ieee.Positive.{num, den, den_pos, value→cross}
use Rattle.numeric.specs.F64.{◌⊕◌, ◌⊗◌, ◌≤ᶠ◌}
use Rattle.numeric.proofs.Whole.{no_minus, round-no_minus, value_of, add-value, mul-value, le-value, non_negative-value}
use Rattle.numeric.specs.Bounds.{AtLeast, AtMost, non_negative}

-- ---- a bound that says less, and one in smaller units
pub at-most-more : {x : Float} {p q c : ℕ} → p ≤ q → AtMost x p c → AtMost x q c
at-most-more {x} l u = record { is = u.is; under = le_trans u.under (mul-le-mul_right (den x) l) }

pub at-least-less : {x : Float} {p q c : ℕ} → q ≤ p → AtLeast x p c → AtLeast x q c
at-least-less {x} l u = record { is = u.is; over = le_trans (mul-le-mul_right (den x) l) u.over }

pub at-most-finer : {x : Float} {q c : ℕ} (k : ℕ) → AtMost x q c → AtMost x (q * k) (c * k)
at-most-finer {x} {q} {c} k u =
    record { is = u.is; under = le_trans (le_of_eq (sym (mul_assoc (num x) c k))) (le_trans (mul-le-mul_right k u.under) (le_of_eq (mul_right_comm q (den x) k))) }

pub at-least-finer : {x : Float} {q c : ℕ} (k : ℕ) → AtLeast x q c → AtLeast x (q * k) (c * k)
at-least-finer {x} {q} {c} k u =
    record { is = u.is; over = le_trans (le_of_eq (mul_right_comm q k (den x))) (le_trans (mul-le-mul_right k u.over) (le_of_eq (mul_assoc (num x) c k))) }

-- ---- a number that is q / c
pub at-most-value : (x : Float) (q c : ℕ) → HasValue x false q c → AtMost x q c
at-most-value x q c v = record { is = non_negative-value x q c v; under = le_of_eq (value→cross x q c v) }

pub at-least-value : (x : Float) (q c : ℕ) → HasValue x false q c → AtLeast x q c
at-least-value x q c v = record { is = non_negative-value x q c v; over = le_of_eq (sym (value→cross x q c v)) }

-- ---- a comparison with it
finite-below : (x y : Float) (q c : ℕ) → T (no_minus x) → HasValue y false q c → T (x ≤ᶠ y) → T (non_negative x)
unfolding le lt eq
finite-below x nan q c p v h = absurd v
finite-below x (inf t) q c p v h = absurd v
finite-below nan (fin t n d) q c p v h = absurd h
finite-below (inf true) (fin t n d) q c p v h = absurd p
finite-below (inf false) (fin t n d) q c p v h = absurd h
finite-below (fin s m e) (fin t n d) q c p v h = p

pub at-most-le : (x y : Float) (q c : ℕ) → 0 < c → T (no_minus x) → HasValue y false q c → T (x ≤ᶠ y) → AtMost x q c
at-most-le x y q c C p v h =
    let n = finite-below x y q c p v h in
    record { is = n; under = leb→le (num x * c) (q * den x) (subst T (le-value x y (num x) (den x) q c (den_pos x) C (value_of x n) v) h) }

pub at-least-le : (x y : Float) (q c : ℕ) → 0 < c → T (non_negative x) → HasValue y false q c → T (y ≤ᶠ x) → AtLeast x q c
at-least-le x y q c C p v h =
    record { is = p; over = leb→le (q * den x) (num x * c) (subst T (le-value y x q c (num x) (den x) C (den_pos x) v (value_of x p)) h) }

-- ---- a rounded fraction
-- q / 2 ^ t is an f64
pub dyadic : (q t : ℕ) → q < 2 ^ 53 → t ≤ 1074 → HasValue (round binary64 false q (2 ^ t)) false q (2 ^ t)
dyadic q t h l =
    round_exact binary64 false q (2 ^ t) q (1074 - t) (pow_pos t) h
    (lt_of_lt_of_le (mul-lt-mul_of_pos_right h (pow_pos (1074 - t))) (le_trans (mul-le-mul_left (2 ^ 53) (pow_mono (less t))) (lit≤ tt)))
    (ap (λ (x : ℕ). q * x) (ap (λ (x : ℕ). 2 ^ x) (sym (join t l)) ∙ pow-add 2 (1074 - t) t) ∙ sym (mul_assoc q (2 ^ (1074 - t)) (2 ^ t)))
  where
    less : (t : ℕ) → 1074 - t ≤ 1074
    less t = omega arith

    join : (t : ℕ) → t ≤ 1074 → 1074 - t + t ≡ 1074
    join t l = omega arith

pub round-at-most : (a d q t : ℕ) → 0 < d → q < 2 ^ 53 → t ≤ 1074 → a * 2 ^ t ≤ q * d → AtMost (round binary64 false a d) q (2 ^ t)
round-at-most a d q t p h l w =
    at-most-le (round binary64 false a d) (round binary64 false q (2 ^ t)) q (2 ^ t) (pow_pos t) (round-no_minus binary64 a d) (dyadic q t h l) (round_mono binary64 a d q (2 ^ t) p (pow_pos t) w)

pub round-at-least : (a d q t : ℕ) → 0 < d → q < 2 ^ 53 → t ≤ 1074 → T (non_negative (round binary64 false a d)) → q * d ≤ a * 2 ^ t → AtLeast (round binary64 false a d) q (2 ^ t)
round-at-least a d q t p h l f w =
    at-least-le (round binary64 false a d) (round binary64 false q (2 ^ t)) q (2 ^ t) (pow_pos t) f (dyadic q t h l) (round_mono binary64 q (2 ^ t) a d (pow_pos t) p w)

-- ---- a sum
sum-under : (X p Y q u a b : ℕ) → X * u ≤ a * p → Y * u ≤ b * q → (X * q + Y * p) * u ≤ (a + b) * (p * q)
sum-under X p Y q u a b h k =
    le_trans (le_of_eq (add-mul (X * q) (Y * p) u))
    (le_trans (add-le-add
    (le_trans (le_of_eq (mul_right_comm X q u)) (le_trans (mul-le-mul_right q h) (le_of_eq (mul_assoc a p q))))
    (le_trans (le_of_eq (mul_right_comm Y p u)) (le_trans (mul-le-mul_right p k) (le_of_eq (mul_assoc b q p ∙ ap (λ (z : ℕ). b * z) (mul_comm q p))))))
    (le_of_eq (sym (add-mul a b (p * q)))))

sum_over : (X p Y q u a b : ℕ) → a * p ≤ X * u → b * q ≤ Y * u → (a + b) * (p * q) ≤ (X * q + Y * p) * u
sum_over X p Y q u a b h k =
    le_trans (le_of_eq (add-mul a b (p * q)))
    (le_trans (add-le-add
    (le_trans (le_of_eq (sym (mul_assoc a p q))) (le_trans (mul-le-mul_right q h) (le_of_eq (mul_right_comm X u q))))
    (le_trans (le_of_eq (ap (λ (z : ℕ). b * z) (mul_comm p q) ∙ sym (mul_assoc b q p))) (le_trans (mul-le-mul_right p k) (le_of_eq (mul_right_comm Y u p)))))
    (le_of_eq (sym (add-mul (X * q) (Y * p) u))))

own-add : (x y : Float) → T (non_negative x) → T (non_negative y) → x ⊕ y ≡ round binary64 false (num x * den y + num y * den x) (den x * den y)
own-add x y p q = add-value x y (num x) (den x) (num y) (den y) (den_pos x) (den_pos y) (value_of x p) (value_of y q)

pub add-at-most : (x y : Float) (a b t : ℕ) → a + b < 2 ^ 53 → t ≤ 1074 → AtMost x a (2 ^ t) → AtMost y b (2 ^ t) → AtMost (x ⊕ y) (a + b) (2 ^ t)
add-at-most x y a b t h l u v =
    subst (λ (z : Float). AtMost z (a + b) (2 ^ t)) (sym (own-add x y u.is v.is))
    (round-at-most (num x * den y + num y * den x) (den x * den y) (a + b) t (mul-pos (den_pos x) (den_pos y)) h l
    (sum-under (num x) (den x) (num y) (den y) (2 ^ t) a b u.under v.under))

pub add-at-least : (x y : Float) (a b t : ℕ) → a + b < 2 ^ 53 → t ≤ 1074 → T (non_negative (x ⊕ y)) → AtLeast x a (2 ^ t) → AtLeast y b (2 ^ t) → AtLeast (x ⊕ y) (a + b) (2 ^ t)
add-at-least x y a b t h l f u v =
    let e = own-add x y u.is v.is in
    subst (λ (z : Float). AtLeast z (a + b) (2 ^ t)) (sym e)
    (round-at-least (num x * den y + num y * den x) (den x * den y) (a + b) t (mul-pos (den_pos x) (den_pos y)) h l
    (subst (λ (z : Float). T (non_negative z)) e f)
    (sum_over (num x) (den x) (num y) (den y) (2 ^ t) a b u.over v.over))

-- ---- a product
own-mul : (x y : Float) → T (non_negative x) → T (non_negative y) → x ⊗ y ≡ round binary64 false (num x * num y) (den x * den y)
own-mul x y p q = mul-value x y (num x) (den x) (num y) (den y) (den_pos x) (den_pos y) (value_of x p) (value_of y q)

powers : (X Y s t : ℕ) → X * Y * 2 ^ (s + t) ≡ X * 2 ^ s * (Y * 2 ^ t)
powers X Y s t = ap (λ (z : ℕ). X * Y * z) (pow-add 2 s t) ∙ mul-mul-mul_comm X Y (2 ^ s) (2 ^ t)

pub mul-at-most : (x y : Float) (a b s t : ℕ) → a * b < 2 ^ 53 → s + t ≤ 1074 → AtMost x a (2 ^ s) → AtMost y b (2 ^ t) → AtMost (x ⊗ y) (a * b) (2 ^ (s + t))
mul-at-most x y a b s t h l u v =
    subst (λ (z : Float). AtMost z (a * b) (2 ^ (s + t))) (sym (own-mul x y u.is v.is))
    (round-at-most (num x * num y) (den x * den y) (a * b) (s + t) (mul-pos (den_pos x) (den_pos y)) h l
    (le_trans (le_of_eq (powers (num x) (num y) s t)) (le_trans (mul-le-mul u.under v.under) (le_of_eq (mul-mul-mul_comm a (den x) b (den y))))))

pub mul-at-least : (x y : Float) (a b s t : ℕ) → a * b < 2 ^ 53 → s + t ≤ 1074 → T (non_negative (x ⊗ y)) → AtLeast x a (2 ^ s) → AtLeast y b (2 ^ t) → AtLeast (x ⊗ y) (a * b) (2 ^ (s + t))
mul-at-least x y a b s t h l f u v =
    let e = own-mul x y u.is v.is in
    subst (λ (z : Float). AtLeast z (a * b) (2 ^ (s + t))) (sym e)
    (round-at-least (num x * num y) (den x * den y) (a * b) (s + t) (mul-pos (den_pos x) (den_pos y)) h l
    (subst (λ (z : Float). T (non_negative z)) e f)
    (le_trans (le_of_eq (mul-mul-mul_comm a b (den x) (den y))) (le_trans (mul-le-mul u.over v.over) (le_of_eq (sym (powers (num x) (num y) s t))))))
