-- Sizes of floats of either sign, as powers of two: they add and multiply, and a sum that keeps adding never gets far. Assumes nothing.
use Rattle.std.proofs.Common.{◌≡◌, ℕ, ◌+◌, ◌-◌, ◌*◌, ◌^◌, ◌<◌, ◌≤◌, Bool, true, false, cond, ◌&&◌, T, ltb, sym, refl, ap, ◌∙◌, subst, le_trans, le_of_eq, add-le-add, mul-le-mul_right, mul_assoc, mul_comm, add-mul, mul-le-mul, mul-pos, one-mul, mul-one, mul_right_comm, le_of_mul-le-mul_right, arith, lit<, pow_mono, pow-add}
use mathlib.Core.Bool.{beq}
use native.Mathlib.Nat.{mul-mul-mul_comm}
use lib.Pow.{pow-lt}
use lib.Ieee.{Float, nan, inf, fin, binary64, round, neg, sum, add, sub, mul}
use lib.Ieee.Exact.{HasValue, round_exact}
use lib.Ieee.Order.{round_mono}
use lib.Ieee.Positive.{num, den, den_pos}
use lib.Ieee.Scale.{finite}
use Rattle.numeric.specs.F64.{◌⊕◌, ◌⊖◌, ◌⊗◌, ◌≤ᶠ◌}
use Rattle.numeric.specs.Bounds.{non_negative, AtMost, Small}
use Rattle.numeric.proofs.Whole.{value_of, round-no_minus}
use Rattle.numeric.proofs.BoundLaws.{at-most-le}
use Rattle.numeric.proofs.Signed.{round-neg, le-self}

-- ---- a bound that says less
pub small-more : {x : Float} {a b : ℕ} → a ≤ b → Small a x → Small b x
small-more {x} l u = record { is = u.is; under = le_trans u.under (mul-le-mul_right (den x) (pow_mono l)) }

-- one on a number with no minus sign
finite-no-minus : (x : Float) → T (non_negative x) → T (finite x)
finite-no-minus nan p = absurd p
finite-no-minus (inf s) p = absurd p
finite-no-minus (fin s m e) p = tt

pub small-at-most : {x : Float} {n : ℕ} → AtMost x (2 ^ n) 1 → Small n x
small-at-most {x} u = record { is = finite-no-minus x u.is; under = le_trans (le_of_eq (sym (mul-one (num x)))) u.under }

-- ---- minus x
pub small-neg : (x : Float) {n : ℕ} → Small n x → Small n (neg x)
unfolding neg
small-neg nan u = absurd u.is
small-neg (inf s) u = absurd u.is
small-neg (fin s m e) u = record { is = tt; under = u.under }

-- ---- a rounded fraction
-- q is rounded to at most 2 ^ n
abbrev pub rounds-to : ℕ → ℕ → Type 0
rounds-to q n = T (round binary64 false q 1 ≤ᶠ round binary64 false (2 ^ n) 1)

-- 2 ^ n is an f64
pow-value : (n : ℕ) → n < 1024 → HasValue (round binary64 false (2 ^ n) 1) false (2 ^ n) 1
pow-value n h =
    round_exact binary64 false (2 ^ n) 1 1 (n + 1074) (lit< tt) (lit< tt)
    (subst (λ (z : ℕ). z < 2 ^ 2098) (sym (one-mul (2 ^ (n + 1074)))) (pow-lt {j = 2098} (omega arith)))
    (sym (pow-add 2 n 1074) ∙ sym (one-mul (2 ^ (n + 1074))) ∙ sym (mul-one (1 * 2 ^ (n + 1074))))

pub pow-rounds : (n : ℕ) → n < 1024 → rounds-to (2 ^ n) n
pow-rounds n h = le-self (round binary64 false (2 ^ n) 1) (value-finite (round binary64 false (2 ^ n) 1) (2 ^ n) 1 (pow-value n h))
  where
    value-finite : (x : Float) (a c : ℕ) → HasValue x false a c → T (finite x)
    value-finite nan a c v = absurd v
    value-finite (inf s) a c v = absurd v
    value-finite (fin s m e) a c v = tt

module _ (q n : ℕ) (h : n < 1024) (r : rounds-to q n) where
  rounded-small : (a c : ℕ) → 0 < c → a ≤ q * c → Small n (round binary64 false a c)
  rounded-small a c C l =
      let y = round binary64 false q 1 in
      let z = round binary64 false a c in
      let u : AtMost y (2 ^ n) 1 = at-most-le y (round binary64 false (2 ^ n) 1) (2 ^ n) 1 (lit< tt) (round-no_minus binary64 q 1) (pow-value n h) r in
      let v : AtMost z (num y) (den y) =
      at-most-le z y (num y) (den y) (den_pos y) (round-no_minus binary64 a c) (value_of y u.is)
      (round_mono binary64 a c q 1 C (lit< tt) (le_trans (le_of_eq (mul-one a)) l)) in
      record { is = finite-no-minus z v.is; under = meet (num z) (den z) (num y) (den y) (2 ^ n) (den_pos y) v.under u.under }
    where
      meet : (a c b d p : ℕ) → 0 < d → a * d ≤ b * c → b * 1 ≤ p * d → a ≤ p * c
      meet a c b d p D k l =
          le_of_mul-le-mul_right
          (le_trans k (le_trans (mul-le-mul_right c (le_trans (le_of_eq (sym (mul-one b))) l)) (le_of_eq (mul_right_comm p d c))))
          D

  round-small : (s : Bool) (a c : ℕ) → 0 < c → a ≤ q * c → Small n (round binary64 s a c)
  round-small false a c C l = rounded-small a c C l
  round-small true a c C l = subst (Small n) (sym (round-neg a c)) (small-neg (round binary64 false a c) (rounded-small a c C l))

  -- ---- a sum
  sum-small : (s t : Bool) (a b c : ℕ) → 0 < c → a + b ≤ q * c → Small n (sum binary64 s a t b c)
  unfolding sum
  sum-small s t a b c C l = pick (beq s t) (ltb a b) (s && ltb b a)
    where
      pick : (x y w : Bool) → Small n (cond x (round binary64 s (a + b) c) (cond y (round binary64 t (b - a) c) (round binary64 w (a - b) c)))
      pick true y w = round-small s (a + b) c C l
      pick false true w = round-small t (b - a) c C (omega arith)
      pick false false w = round-small w (a - b) c C (omega arith)

  -- of x at most 2 ^ a and y at most 2 ^ b, where the two make at most q
  pub add_small : (x y : Float) (a b : ℕ) → 2 ^ a + 2 ^ b ≤ q → Small a x → Small b y → Small n (x ⊕ y)
  unfolding add
  add_small nan y a b l u v = absurd u.is
  add_small (inf s) y a b l u v = absurd u.is
  add_small (fin s m e) nan a b l u v = absurd v.is
  add_small (fin s m e) (inf t) a b l u v = absurd v.is
  add_small (fin s m e) (fin t k d) a b l u v =
      let x = fin s m e in
      let y = fin t k d in
      sum-small s t (num x * den y) (num y * den x) (den x * den y) (mul-pos (den_pos x) (den_pos y))
      (le_trans
      (add-le-add
      (le_trans (mul-le-mul_right (den y) u.under) (le_of_eq (mul_assoc (2 ^ a) (den x) (den y))))
      (le_trans (mul-le-mul_right (den x) v.under) (le_of_eq (mul_assoc (2 ^ b) (den y) (den x) ∙ ap (λ (z : ℕ). 2 ^ b * z) (mul_comm (den y) (den x))))))
      (le_trans (le_of_eq (sym (add-mul (2 ^ a) (2 ^ b) (den x * den y)))) (mul-le-mul_right (den x * den y) l)))

-- two of one size make twice as much at most
pub small-add : (x y : Float) (n : ℕ) → n + 1 < 1024 → Small n x → Small n y → Small (n + 1) (x ⊕ y)
small-add x y n h u v = add_small (2 ^ (n + 1)) (n + 1) h (pow-rounds (n + 1) h) x y n n (le_of_eq (twice (2 ^ n) ∙ sym (pow-add 2 n 1))) u v
  where
    twice : (a : ℕ) → a + a ≡ a * 2
    twice a = omega arith

pub small-sub : (x y : Float) (n : ℕ) → n + 1 < 1024 → Small n x → Small n y → Small (n + 1) (x ⊖ y)
unfolding sub
small-sub x y n h u v = small-add x (neg y) n h u (small-neg y v)

-- 2 ^ (53 + n) takes up 2 ^ n: the sum is rounded back to it, so that one who keeps adding never gets beyond it
pub small-kept : (x y : Float) (n : ℕ) → n + 53 < 1024 → rounds-to (2 ^ (n + 53) + 2 ^ n) (n + 53) → Small (n + 53) x → Small n y → Small (n + 53) (x ⊕ y)
small-kept x y n h r u v = add_small (2 ^ (n + 53) + 2 ^ n) (n + 53) h r x y (n + 53) n (le_of_eq refl) u v

-- ---- a product
pub small_mul : (x y : Float) (a b : ℕ) → a + b < 1024 → Small a x → Small b y → Small (a + b) (x ⊗ y)
unfolding mul
small_mul nan y a b h u v = absurd u.is
small_mul (inf s) y a b h u v = absurd u.is
small_mul (fin s m e) nan a b h u v = absurd v.is
small_mul (fin s m e) (inf t) a b h u v = absurd v.is
small_mul (fin s m e) (fin t k d) a b h u v =
    let x = fin s m e in
    let y = fin t k d in
    round-small (2 ^ (a + b)) (a + b) h (pow-rounds (a + b) h) _ (num x * num y) (den x * den y) (mul-pos (den_pos x) (den_pos y))
    (le_trans (mul-le-mul u.under v.under)
    (le_of_eq (mul-mul-mul_comm (2 ^ a) (den x) (2 ^ b) (den y) ∙ ap (λ (z : ℕ). z * (den x * den y)) (sym (pow-add 2 a b)))))
