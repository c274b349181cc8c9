-- Laws of f64 arithmetic on numbers with no minus sign, as fractions: a sum, a difference, a product, a quotient and a comparison, by
-- any fractions that the values equal; and whole numbers up to 2 ^ 53, which an f64 holds exactly. Assumes nothing.
use Rattle.std.proofs.Common.{◌≡◌, ℕ, zero, suc, ◌+◌, ◌-◌, ◌*◌, ◌^◌, ◌<◌, ◌≤◌, Bool, true, false, cond, not, ◌&&◌, ◌||◌, T, eqb, ltb, leb, ℤ, sym, refl, ap, ◌∙◌, subst, ap₂, true≢false, mul_assoc, mul_comm, add-mul, mul-pos, one-mul, lt_of_not-le, zero-mul, mul-one, not-le_of_lt, mul_left_comm, arith, lit<, ltb→lt, ltb-false, ltb-true, le-ltb, lt-ltb, eqb-true, le-leb, leb-false, leb-true}
use native.Mathlib.Nat.{mul-sub, mul-mul-mul_comm}
use lib.Dec.{eqb-suc-zero}
use borrow.Author.Tests.{lt-leb, eqb-false}
use lib.Ieee.{Float, nan, inf, fin, Format, binary64, prec, emax, low, up, down, odd, units, round, add, sub, mul, div, sum, lt, le, eq, ne, is_nan, of_int}
use lib.Ieee.Exact.{HasValue}
use lib.Ieee.Back.{round_whole}
use lib.Ieee.Fits.{round_is, down_pos}
use lib.Ieee.Order.{transfer}
use lib.Ieee.Scale.{round_same}
use lib.Ieee.Positive.{num, den, den_pos}
use Rattle.numeric.specs.F64.{◌⊕◌, ◌⊖◌, ◌⊗◌, ◌⊘◌, ◌<ᶠ◌, ◌≤ᶠ◌, whole}
use Rattle.numeric.specs.Bounds.{non_negative}

-- no minus sign: an infinity and a NaN may have none
abbrev pub no_minus : Float → Bool
no_minus nan = true
no_minus (inf s) = not s
no_minus (fin s m e) = not s

pub value_of : (x : Float) → T (non_negative x) → HasValue x false (num x) (den x)
value_of nan p = absurd p
value_of (inf s) p = absurd p
value_of (fin true m e) p = absurd p
value_of (fin false m e) p = (refl, refl)

pub non_negative-value : (x : Float) (a c : ℕ) → HasValue x false a c → T (non_negative x)
non_negative-value nan a c h = absurd h
non_negative-value (inf s) a c h = absurd h
non_negative-value (fin true m e) a c h = absurd (true≢false h.0)
non_negative-value (fin false m e) a c h = tt

-- a number, or an infinity, with no minus sign
abbrev pub upward : Float → Bool
upward nan = false
upward (inf s) = not s
upward (fin s m e) = not s

units-upward : (f : Format) (q k : ℕ) → T (upward (units f false q k))
unfolding units odd
units-upward f q k = go (ltb (q * 2 ^ k) (2 ^ (low f + suc (emax f)))) q
  where
    go : (t : Bool) (q : ℕ) → T (upward (cond t (odd (suc (prec f)) false q k (low f)) (inf false)))
    go true zero = tt
    go true (suc q) = tt
    go false q = tt

-- a fraction is rounded to a number with no minus sign, or to the infinity with none
pub round-upward : (f : Format) (a b : ℕ) → T (upward (round f false a b))
round-upward f a b = rw (round_is f false a b) (units-upward f _ _)

upward-no_minus : (x : Float) → T (upward x) → T (no_minus x)
upward-no_minus nan p = tt
upward-no_minus (inf s) p = p
upward-no_minus (fin s m e) p = p

pub round-no_minus : (f : Format) (a b : ℕ) → T (no_minus (round f false a b))
round-no_minus f a b = upward-no_minus (round f false a b) (round-upward f a b)

-- what is not different from itself is a number
pub not-nan : (v : Float) → ne v v ≡ false → T (not (is_nan v))
unfolding ne eq is_nan
not-nan nan h = subst T h tt
not-nan (inf s) h = tt
not-nan (fin s m e) h = tt

-- ---- how a float that is a / c is written
record Written (x : Float) (a c : ℕ) : Type 0 where
  m : ℕ
  e : ℤ
  is : x ≡ fin false m e
  value : m * up e * c ≡ a * down e

written : (x : Float) (a c : ℕ) → HasValue x false a c → Written x a c
written nan a c h = absurd h
written (inf s) a c h = absurd h
written (fin true m e) a c h = absurd (true≢false h.0)
written (fin false m e) a c h = record { m = m; e = e; is = refl; value = h.1 }

-- ---- fractions
left : (X q a c d p : ℕ) → X * c ≡ a * p → X * q * (c * d) ≡ a * d * (p * q)
left X q a c d p h = simp (mul_assoc, mul_comm, mul_left_comm) (simp (mul_assoc, mul_comm, mul_left_comm) at (ap (λ (z : ℕ). z * (q * d)) h))

right : (Y p b d c q : ℕ) → Y * d ≡ b * q → Y * p * (c * d) ≡ b * c * (p * q)
right Y p b d c q h = simp (mul_assoc, mul_comm, mul_left_comm) (simp (mul_assoc, mul_comm, mul_left_comm) at (ap (λ (z : ℕ). z * (p * c)) h))

minus-mul : (a b c : ℕ) → (a - b) * c ≡ a * c - b * c
minus-mul a b c = mul_comm (a - b) c ∙ mul-sub c a b ∙ ap₂ ◌-◌ (mul_comm c a) (mul_comm c b)

some : (n d b e : ℕ) → n * d ≡ b * e → 0 < b → 0 < e → 0 < n
some zero d b e h B E = absurd (omega (arith, mul-pos B E, sym (zero-mul d) ∙ h))
some (suc n) d b e h B E = omega arith

leb-iff : (a b u v : ℕ) → (a ≤ b → u ≤ v) → (u ≤ v → a ≤ b) → leb a b ≡ leb u v
leb-iff a b u v f g = go (leb a b) refl
  where
    go : (t : Bool) → leb a b ≡ t → t ≡ leb u v
    go true h = sym (le-leb u v (f (leb-true a b h)))
    go false h = sym (lt-leb u v (lt_of_not-le (λ w. not-le_of_lt (leb-false a b h) (g w))))

not-leb : (a b : ℕ) → ltb a b ≡ not (leb b a)
not-leb a b = go (leb b a) refl
  where
    go : (t : Bool) → leb b a ≡ t → ltb a b ≡ not t
    go true h = le-ltb a b (leb-true b a h)
    go false h = lt-ltb a b (leb-false b a h)

-- how `le` is written on numbers with no minus sign
leb-or : (a b : ℕ) → (ltb a b || (eqb a b && true)) ≡ leb a b
leb-or a b = go (ltb a b) refl (eqb a b) refl
  where
    go : (t : Bool) → ltb a b ≡ t → (u : Bool) → eqb a b ≡ u → (t || (u && true)) ≡ leb a b
    go true h u k = sym (le-leb a b (omega (arith, ltb-true a b h)))
    go false h true k = sym (le-leb a b (omega (arith, eqb-true a b k)))
    go false h false k = sym (lt-leb a b (lt_of_not-le (λ w. eqb-false a b k (omega (arith, ltb-false a b h)))))

-- how `sub` takes the less from the greater
pick : (a b c : ℕ) → b ≤ a → sum binary64 false a true b c ≡ round binary64 false (a - b) c
unfolding sum
pick a b c h = go (ltb a b) (ltb→lt a b)
  where
    go : (t : Bool) → (T t → a < b) → cond t (round binary64 true (b - a) c) (round binary64 false (a - b) c) ≡ round binary64 false (a - b) c
    go true k = absurd (not-le_of_lt (k tt) h)
    go false k = refl

-- ---- arithmetic and comparison, by any fractions that the values equal
module _ (x y : Float) (a c b d : ℕ) (C : 0 < c) (D : 0 < d) (h : HasValue x false a c) (k : HasValue y false b d) where
  add-fin : (m : ℕ) (e : ℤ) (n : ℕ) (g : ℤ) → m * up e * c ≡ a * down e → n * up g * d ≡ b * down g → fin false m e ⊕ fin false n g ≡ round binary64 false (a * d + b * c) (c * d)
  unfolding add sum
  add-fin m e n g v w =
      round_same binary64 false (m * up e * down g + n * up g * down e) (down e * down g) (a * d + b * c) (c * d) (mul-pos (down_pos e) (down_pos g)) (mul-pos C D)
      (add-mul (m * up e * down g) (n * up g * down e) (c * d)
      ∙ ap₂ ◌+◌ (left (m * up e) (down g) a c d (down e) v) (right (n * up g) (down e) b d c (down g) w)
      ∙ sym (add-mul (a * d) (b * c) (down e * down g)))

  pub add-value : x ⊕ y ≡ round binary64 false (a * d + b * c) (c * d)
  add-value = let s = written x a c h in let t = written y b d k in ap₂ ◌⊕◌ s.is t.is ∙ add-fin s.m s.e t.m t.e s.value t.value

  mul-fin : (m : ℕ) (e : ℤ) (n : ℕ) (g : ℤ) → m * up e * c ≡ a * down e → n * up g * d ≡ b * down g → fin false m e ⊗ fin false n g ≡ round binary64 false (a * b) (c * d)
  unfolding mul
  mul-fin m e n g v w =
      round_same binary64 false (m * up e * (n * up g)) (down e * down g) (a * b) (c * d) (mul-pos (down_pos e) (down_pos g)) (mul-pos C D)
      (mul-mul-mul_comm (m * up e) (n * up g) c d ∙ ap₂ ◌*◌ v w ∙ mul-mul-mul_comm a (down e) b (down g))

  pub mul-value : x ⊗ y ≡ round binary64 false (a * b) (c * d)
  mul-value = let s = written x a c h in let t = written y b d k in ap₂ ◌⊗◌ s.is t.is ∙ mul-fin s.m s.e t.m t.e s.value t.value

  sub-fin : (m : ℕ) (e : ℤ) (n : ℕ) (g : ℤ) → m * up e * c ≡ a * down e → n * up g * d ≡ b * down g → b * c ≤ a * d → fin false m e ⊖ fin false n g ≡ round binary64 false (a * d - b * c) (c * d)
  unfolding sub
  sub-fin m e n g v w l =
      pick (m * up e * down g) (n * up g * down e) (down e * down g) (transfer (n * up g) (m * up e) (down g) (down e) b a d c D C w v l)
      ∙ round_same binary64 false (m * up e * down g - n * up g * down e) (down e * down g) (a * d - b * c) (c * d) (mul-pos (down_pos e) (down_pos g)) (mul-pos C D)
      (minus-mul (m * up e * down g) (n * up g * down e) (c * d)
      ∙ ap₂ ◌-◌ (left (m * up e) (down g) a c d (down e) v) (right (n * up g) (down e) b d c (down g) w)
      ∙ sym (minus-mul (a * d) (b * c) (down e * down g)))

  pub sub-value : b * c ≤ a * d → x ⊖ y ≡ round binary64 false (a * d - b * c) (c * d)
  sub-value l = let s = written x a c h in let t = written y b d k in ap₂ ◌⊖◌ s.is t.is ∙ sub-fin s.m s.e t.m t.e s.value t.value l

  div-fin : (m : ℕ) (e : ℤ) (n : ℕ) (g : ℤ) → 0 < b → m * up e * c ≡ a * down e → n * up g * d ≡ b * down g → fin false m e ⊘ fin false n g ≡ round binary64 false (a * d) (c * b)
  unfolding div
  div-fin m e zero g B v w = absurd (omega (arith, some (0 * up g) d b (down g) w B (down_pos g), zero-mul (up g)))
  div-fin m e (suc n) g B v w =
      rw (eqb-suc-zero n)
      (round_same binary64 false (m * up e * down g) (suc n * up g * down e) (a * d) (c * b)
      (mul-pos (some (suc n * up g) d b (down g) w B (down_pos g)) (down_pos e)) (mul-pos C B)
      (mul-mul-mul_comm (m * up e) (down g) c b ∙ ap (λ (z : ℕ). z * (down g * b)) v
      ∙ ap (λ (z : ℕ). a * down e * z) (mul_comm (down g) b ∙ sym w ∙ mul_comm (suc n * up g) d)
      ∙ mul-mul-mul_comm a (down e) d (suc n * up g) ∙ ap (λ (z : ℕ). a * d * z) (mul_comm (down e) (suc n * up g))))

  pub div_value : 0 < b → x ⊘ y ≡ round binary64 false (a * d) (c * b)
  div_value B = let s = written x a c h in let t = written y b d k in ap₂ ◌⊘◌ s.is t.is ∙ div-fin s.m s.e t.m t.e B s.value t.value

  le-fin : (m : ℕ) (e : ℤ) (n : ℕ) (g : ℤ) → m * up e * c ≡ a * down e → n * up g * d ≡ b * down g → fin false m e ≤ᶠ fin false n g ≡ leb (a * d) (b * c)
  unfolding le lt eq
  le-fin m e n g v w =
      leb-or (m * up e * down g) (n * up g * down e)
      ∙ leb-iff (m * up e * down g) (n * up g * down e) (a * d) (b * c)
      (transfer a b c d (m * up e) (n * up g) (down e) (down g) (down_pos e) (down_pos g) (sym v) (sym w))
      (transfer (m * up e) (n * up g) (down e) (down g) a b c d C D v w)

  pub le-value : x ≤ᶠ y ≡ leb (a * d) (b * c)
  le-value = let s = written x a c h in let t = written y b d k in ap₂ ◌≤ᶠ◌ s.is t.is ∙ le-fin s.m s.e t.m t.e s.value t.value

  lt-fin : (m : ℕ) (e : ℤ) (n : ℕ) (g : ℤ) → m * up e * c ≡ a * down e → n * up g * d ≡ b * down g → fin false m e <ᶠ fin false n g ≡ ltb (a * d) (b * c)
  unfolding lt
  lt-fin m e n g v w =
      not-leb (m * up e * down g) (n * up g * down e)
      ∙ ap not (leb-iff (n * up g * down e) (m * up e * down g) (b * c) (a * d)
      (transfer b a d c (n * up g) (m * up e) (down g) (down e) (down_pos g) (down_pos e) (sym w) (sym v))
      (transfer (n * up g) (m * up e) (down g) (down e) b a d c D C w v))
      ∙ sym (not-leb (a * d) (b * c))

  pub lt-value : x <ᶠ y ≡ ltb (a * d) (b * c)
  lt-value = let s = written x a c h in let t = written y b d k in ap₂ ◌<ᶠ◌ s.is t.is ∙ lt-fin s.m s.e t.m t.e s.value t.value

-- ---- a whole number as an f64
pub whole-value : (n : ℕ) → n ≤ 2 ^ 53 → HasValue (whole n) false n 1
unfolding of_int
whole-value n h = round_whole binary64 false n h

pub whole-round : (n : ℕ) → round binary64 false n 1 ≡ whole n
unfolding of_int
whole-round n = refl

-- sums, differences and products of whole numbers are exact
pub add-whole : (a b : ℕ) → a + b ≤ 2 ^ 53 → whole a ⊕ whole b ≡ whole (a + b)
add-whole a b h =
    add-value (whole a) (whole b) a 1 b 1 (lit< tt) (lit< tt) (whole-value a (omega arith)) (whole-value b (omega arith))
    ∙ ap₂ (λ (x y : ℕ). round binary64 false (x + y) 1) (mul-one a) (mul-one b) ∙ whole-round (a + b)

pub sub-whole : (a b : ℕ) → b ≤ a → a ≤ 2 ^ 53 → whole a ⊖ whole b ≡ whole (a - b)
sub-whole a b l h =
    sub-value (whole a) (whole b) a 1 b 1 (lit< tt) (lit< tt) (whole-value a h) (whole-value b (omega arith)) (omega arith)
    ∙ ap₂ (λ (x y : ℕ). round binary64 false (x - y) 1) (mul-one a) (mul-one b) ∙ whole-round (a - b)

pub mul-whole : (a b : ℕ) → a ≤ 2 ^ 53 → b ≤ 2 ^ 53 → whole a ⊗ whole b ≡ whole (a * b)
mul-whole a b h k =
    mul-value (whole a) (whole b) a 1 b 1 (lit< tt) (lit< tt) (whole-value a h) (whole-value b k) ∙ whole-round (a * b)

-- a quotient of whole numbers is rounded once
pub div-whole : (a b : ℕ) → 0 < b → a ≤ 2 ^ 53 → b ≤ 2 ^ 53 → whole a ⊘ whole b ≡ round binary64 false a b
div-whole a b B h k =
    div_value (whole a) (whole b) a 1 b 1 (lit< tt) (lit< tt) (whole-value a h) (whole-value b k) B
    ∙ ap₂ (λ (x y : ℕ). round binary64 false x y) (mul-one a) (one-mul b)

-- a comparison with a whole number, and of two
pub lt-whole : (x : Float) (n : ℕ) → T (non_negative x) → n ≤ 2 ^ 53 → x <ᶠ whole n ≡ ltb (num x) (n * den x)
lt-whole x n p h = lt-value x (whole n) (num x) (den x) n 1 (den_pos x) (lit< tt) (value_of x p) (whole-value n h) ∙ ap (λ (z : ℕ). ltb z (n * den x)) (mul-one (num x))

pub lt-wholes : (a b : ℕ) → a ≤ 2 ^ 53 → b ≤ 2 ^ 53 → whole a <ᶠ whole b ≡ ltb a b
lt-wholes a b h k = lt-value (whole a) (whole b) a 1 b 1 (lit< tt) (lit< tt) (whole-value a h) (whole-value b k) ∙ ap₂ ltb (mul-one a) (mul-one b)
