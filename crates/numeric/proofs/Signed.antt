-- The order of f64 over both signs. A finite float is (plus x - minus x) / den x; a sum, a difference, and a product by a number with no
-- minus sign, are such a difference rounded, and rounding keeps the order. So these operations do, with no error term. Assumes nothing.
use Rattle.std.proofs.Common.{◌≡◌, ℕ, zero, suc, ◌+◌, ◌-◌, ◌*◌, ◌^◌, ◌<◌, ◌≤◌, Bool, true, false, cond, not, ◌&&◌, ◌||◌, T, eqb, ltb, leb, sym, refl, ap, ◌∙◌, subst, ap₂, le_trans, le_of_eq, mul-le-mul_right, mul_comm, add-mul, mul-pos, mul-zero, zero-mul, mul-add, mul_right_comm, le_of_mul-le-mul_right, arith, ltb-false, ltb-true, eq-eqb, eqb-true, leb-false, leb-true}
use native.Mathlib.Nat.{mul-mul-mul_comm, sub-zero, mul-sub}
use borrow.Author.Tests.{eqb-false}
use lib.Ieee.{Float, nan, inf, fin, Format, binary64, prec, emax, low, up, down, odd, units, round, neg, sum, add, sub, mul, below, level, lt, le, eq}
use lib.Ieee.Fits.{round_is}
use lib.Ieee.Order.{round_mono}
use lib.Ieee.Scale.{round_same, finite}
use lib.Ieee.Positive.{num, den, den_pos}
use Rattle.numeric.specs.F64.{◌⊕◌, ◌⊖◌, ◌⊗◌, ◌≤ᶠ◌}
use Rattle.numeric.specs.Bounds.{non_negative}
use Rattle.numeric.proofs.Whole.{upward, round-upward}

-- ---- a finite float as a fraction of a difference
-- what a magnitude a with the sign s has above zero, and below
abbrev over : Bool → ℕ → ℕ
over false a = a
over true a = 0

abbrev under : Bool → ℕ → ℕ
under false a = 0
under true a = a

-- it is (plus x - minus x) / den x
abbrev plus : Float → ℕ
plus nan = 0
plus (inf s) = 0
plus (fin s m e) = over s (m * up e)

abbrev minus : Float → ℕ
minus nan = 0
minus (inf s) = 0
minus (fin s m e) = under s (m * up e)

over-mul : (s : Bool) (a k : ℕ) → over s a * k ≡ over s (a * k)
over-mul false a k = refl
over-mul true a k = zero-mul k

under-mul : (s : Bool) (a k : ℕ) → under s a * k ≡ under s (a * k)
under-mul false a k = zero-mul k
under-mul true a k = refl

-- ---- the order, as one of such fractions
by-test : (a b : ℕ) (u : Bool) → T (ltb a b || (eqb a b && u)) → a ≤ b
by-test a b u = go (ltb a b) refl (eqb a b) refl
  where
    go : (p : Bool) → ltb a b ≡ p → (q : Bool) → eqb a b ≡ q → T (p || (q && u)) → a ≤ b
    go true e q f h = omega (arith, ltb-true a b e)
    go false e true f h = omega (arith, eqb-true a b f)
    go false e false f h = absurd h

by-test-back : (a b : ℕ) → T (ltb b a || (eqb a b && true)) → b ≤ a
by-test-back a b = go (ltb b a) refl (eqb a b) refl
  where
    go : (p : Bool) → ltb b a ≡ p → (q : Bool) → eqb a b ≡ q → T (p || (q && true)) → b ≤ a
    go true e q f h = omega (arith, ltb-true b a e)
    go false e true f h = omega (arith, eqb-true a b f)
    go false e false f h = absurd h

both_zero : (a b : ℕ) → T (eqb a b && eqb a 0) → a + b ≤ 0 + 0
both_zero a b = go (eqb a b) refl (eqb a 0) refl
  where
    go : (p : Bool) → eqb a b ≡ p → (q : Bool) → eqb a 0 ≡ q → T (p && q) → a + b ≤ 0 + 0
    go true e true f h = omega (arith, eqb-true a b e, eqb-true a 0 f)
    go true e false f h = absurd h
    go false e q f h = absurd h

ordered : (s t : Bool) (a b : ℕ) → T (below s a t b || level s a t b) → over s a + under t b ≤ over t b + under s a
ordered false false a b h = omega (arith, by-test a b true h)
ordered false true a b h = both_zero a b h
ordered true false a b h = omega arith
ordered true true a b h = omega (arith, by-test-back a b h)

test-le : (a b : ℕ) → a ≤ b → T (ltb a b || (eqb a b && true))
test-le a b l = go (ltb a b) refl (eqb a b) refl
  where
    go : (p : Bool) → ltb a b ≡ p → (q : Bool) → eqb a b ≡ q → T (p || (q && true))
    go true e q f = tt
    go false e true f = tt
    go false e false f = absurd (eqb-false a b f (omega (arith, ltb-false a b e)))

test-ge : (a b : ℕ) → b ≤ a → T (ltb b a || (eqb a b && true))
test-ge a b l = go (ltb b a) refl (eqb a b) refl
  where
    go : (p : Bool) → ltb b a ≡ p → (q : Bool) → eqb a b ≡ q → T (p || (q && true))
    go true e q f = tt
    go false e true f = tt
    go false e false f = absurd (eqb-false a b f (omega (arith, ltb-false b a e)))

test-zeros : (a b : ℕ) → a + b ≤ 0 + 0 → T (eqb a b && eqb a 0)
test-zeros a b l = rw (eq-eqb a b (omega arith), eq-eqb a 0 (omega arith)) tt

test-across : (a b : ℕ) → T (ltb 0 (a + b) || (eqb a b && eqb a 0))
test-across a b = go (ltb 0 (a + b)) refl
  where
    go : (p : Bool) → ltb 0 (a + b) ≡ p → T (p || (eqb a b && eqb a 0))
    go true e = tt
    go false e = test-zeros a b (omega (arith, ltb-false 0 (a + b) e))

test-order : (s t : Bool) (a b : ℕ) → over s a + under t b ≤ over t b + under s a → T (below s a t b || level s a t b)
test-order false false a b h = test-le a b (omega arith)
test-order false true a b h = test-zeros a b h
test-order true false a b h = test-across a b
test-order true true a b h = test-ge a b (omega arith)

le_parts : (x y : Float) → T (finite x) → T (finite y) → T (x ≤ᶠ y) → plus x * den y + minus y * den x ≤ plus y * den x + minus x * den y
unfolding le lt eq
le_parts nan y p q h = absurd p
le_parts (inf s) y p q h = absurd p
le_parts (fin s m e) nan p q h = absurd q
le_parts (fin s m e) (inf t) p q h = absurd q
le_parts (fin s m e) (fin t n d) p q h =
    rw (over-mul s (m * up e) (down d), under-mul t (n * up d) (down e), over-mul t (n * up d) (down e), under-mul s (m * up e) (down d))
    (ordered s t (m * up e * down d) (n * up d * down e) h)

parts-le : (x y : Float) → T (finite x) → T (finite y) → plus x * den y + minus y * den x ≤ plus y * den x + minus x * den y → T (x ≤ᶠ y)
unfolding le lt eq
parts-le nan y p q h = absurd p
parts-le (inf s) y p q h = absurd p
parts-le (fin s m e) nan p q h = absurd q
parts-le (fin s m e) (inf t) p q h = absurd q
parts-le (fin s m e) (fin t n d) p q h =
    test-order s t (m * up e * down d) (n * up d * down e)
    (rw (over-mul s (m * up e) (down d), under-mul t (n * up d) (down e), over-mul t (n * up d) (down e), under-mul s (m * up e) (down d)) at h)

-- ---- the order of finite floats
through : (p n c q m d r l e : ℕ) → 0 < d → p * d + m * c ≤ q * c + n * d → q * e + l * d ≤ r * d + m * e → p * e + l * c ≤ r * c + n * e
through p n c q m d r l e D h k =
    le_of_mul-le-mul_right
    (meet (p * e) (l * c) (r * c) (n * e) d
    (p * d) (m * c) (q * c) (n * d) e (q * e) (l * d) (r * d) (m * e) c
    (mul_right_comm p e d) (mul_right_comm l c d) (mul_right_comm r c d) (mul_right_comm n e d) (mul_right_comm m c e) (mul_right_comm q c e)
    (mul-le-mul_right e h) (mul-le-mul_right c k))
    D
  where
    line : (A B C D P Q R S U W : ℕ) → P + U ≤ W + S → W + Q ≤ R + U → A ≡ P → B ≡ Q → C ≡ R → D ≡ S → A + B ≤ C + D
    line A B C D P Q R S U W h k a b c d = omega arith

    meet : (A B C D d : ℕ) (pd mc qc nd e : ℕ) (qe ld rd me c : ℕ)
        → A * d ≡ pd * e → B * d ≡ ld * c → C * d ≡ rd * c → D * d ≡ nd * e → mc * e ≡ me * c → qc * e ≡ qe * c
        → (pd + mc) * e ≤ (qc + nd) * e → (qe + ld) * c ≤ (rd + me) * c → (A + B) * d ≤ (C + D) * d
    meet A B C D d pd mc qc nd e qe ld rd me c f g i j o w h k =
        rw (add-mul A B d, add-mul C D d)
        (line (A * d) (B * d) (C * d) (D * d) (pd * e) (ld * c) (rd * c) (nd * e) (mc * e) (qc * e)
        (rw (add-mul pd mc e, add-mul qc nd e) at h)
        (rw (add-mul qe ld c, add-mul rd me c, ← w, ← o) at k)
        f g i j)

pub le-through : (x y z : Float) → T (finite x) → T (finite y) → T (finite z) → T (x ≤ᶠ y) → T (y ≤ᶠ z) → T (x ≤ᶠ z)
le-through x y z p q r h k =
    parts-le x z p r (through (plus x) (minus x) (den x) (plus y) (minus y) (den y) (plus z) (minus z) (den z) (den_pos y) (le_parts x y p q h) (le_parts y z q r k))

pub le-self : (x : Float) → T (finite x) → T (x ≤ᶠ x)
le-self x p = parts-le x x p p (same (plus x * den x) (minus x * den x))
  where
    same : (a b : ℕ) → a + b ≤ a + b
    same a b = omega arith

-- of two one is at most the other
pub le-other : (x y : Float) → T (finite x) → T (finite y) → (x ≤ᶠ y) ≡ false → T (y ≤ᶠ x)
le-other x y p q e = parts-le y x q p (go (plus x * den y) (minus y * den x) (plus y * den x) (minus x * den y) (λ h. subst T e (parts-le x y p q h)))
  where
    go : (a b c d : ℕ) → (a + b ≤ c + d → ⊥) → c + d ≤ a + b
    go a b c d h = pick (leb (a + b) (c + d)) refl
      where
        pick : (t : Bool) → leb (a + b) (c + d) ≡ t → c + d ≤ a + b
        pick true u = absurd (h (leb-true (a + b) (c + d) u))
        pick false u = omega (arith, leb-false (a + b) (c + d) u)

-- what lies between two finite floats is finite
pub finite-between : (x y z : Float) → T (finite x) → T (finite z) → T (x ≤ᶠ y) → T (y ≤ᶠ z) → T (finite y)
unfolding le lt eq
finite-between nan y z p r h k = absurd p
finite-between (inf s) y z p r h k = absurd p
finite-between (fin s m e) nan z p r h k = absurd h
finite-between (fin s m e) (inf true) z p r h k = absurd h
finite-between (fin s m e) (inf false) nan p r h k = absurd r
finite-between (fin s m e) (inf false) (inf t) p r h k = absurd r
finite-between (fin s m e) (inf false) (fin t n d) p r h k = absurd k
finite-between (fin s m e) (fin t n d) z p r h k = tt

-- ---- minus x
neg-finite : (x : Float) → T (finite x) → T (finite (neg x))
unfolding neg
neg-finite nan p = absurd p
neg-finite (inf s) p = absurd p
neg-finite (fin s m e) p = tt

turned : (s t : Bool) (a b : ℕ) → over s a + under t b ≤ over t b + under s a → over (not t) b + under (not s) a ≤ over (not s) a + under (not t) b
turned false false a b h = omega arith
turned false true a b h = omega arith
turned true false a b h = omega arith
turned true true a b h = omega arith

pub neg-le : (x y : Float) → T (x ≤ᶠ y) → T (neg y ≤ᶠ neg x)
unfolding le lt eq neg
neg-le nan y h = absurd h
neg-le (inf s) nan h = absurd h
neg-le (inf true) (inf true) h = tt
neg-le (inf true) (inf false) h = tt
neg-le (inf false) (inf true) h = absurd h
neg-le (inf false) (inf false) h = tt
neg-le (inf true) (fin t n d) h = tt
neg-le (inf false) (fin t n d) h = absurd h
neg-le (fin s m e) nan h = absurd h
neg-le (fin s m e) (inf true) h = absurd h
neg-le (fin s m e) (inf false) h = tt
neg-le (fin s m e) (fin t n d) h =
    test-order (not t) (not s) (n * up d * down e) (m * up e * down d)
    (turned s t (m * up e * down d) (n * up d * down e) (ordered s t (m * up e * down d) (n * up d * down e) h))

-- ---- rounding
units-neg : (f : Format) (q k : ℕ) → units f true q k ≡ neg (units f false q k)
unfolding units odd neg
units-neg f q k = go (ltb (q * 2 ^ k) (2 ^ (low f + suc (emax f)))) q
  where
    go : (t : Bool) (q : ℕ) → cond t (odd (suc (prec f)) true q k (low f)) (inf true) ≡ neg (cond t (odd (suc (prec f)) false q k (low f)) (inf false))
    go true zero = refl
    go true (suc q) = refl
    go false q = refl

-- both signs are rounded alike
pub round-neg : (a c : ℕ) → round binary64 true a c ≡ neg (round binary64 false a c)
round-neg a c = round_is binary64 true a c ∙ units-neg binary64 _ _ ∙ ap neg (sym (round_is binary64 false a c))

across : (x y : Float) → T (upward x) → T (upward y) → T (neg x ≤ᶠ y)
unfolding le lt eq neg
across nan y p q = absurd p
across (inf true) y p q = absurd p
across (inf false) nan p q = absurd q
across (inf false) (inf true) p q = absurd q
across (inf false) (inf false) p q = tt
across (inf false) (fin t n d) p q = tt
across (fin true m e) y p q = absurd p
across (fin false m e) nan p q = absurd q
across (fin false m e) (inf true) p q = absurd q
across (fin false m e) (inf false) p q = tt
across (fin false m e) (fin true n d) p q = absurd q
across (fin false m e) (fin false n d) p q = test-across (m * up e * down d) (n * up d * down e)

zeros : (c d : ℕ) → 0 < c → 0 < d → T (round binary64 false 0 c ≤ᶠ round binary64 true 0 d)
unfolding le lt eq round units odd
zeros c d C D =
    rw (round_same binary64 false 0 c 0 1 C (omega arith) (zero-mul 1 ∙ sym (zero-mul c)), round_same binary64 true 0 d 0 1 D (omega arith) (zero-mul 1 ∙ sym (zero-mul d)))
    tt

-- z is (p - n) / c, rounded; of a zero either sign
data Rounds (z : Float) (p n c : ℕ) : Type 0 where
  above : n ≤ p → z ≡ round binary64 false (p - n) c → Rounds z p n c
  beneath : p ≤ n → z ≡ round binary64 true (n - p) c → Rounds z p n c

minus-mul : (a b c : ℕ) → (a - b) * c ≡ a * c - b * c
minus-mul a b c = mul_comm (a - b) c ∙ mul-sub c a b ∙ ap₂ ◌-◌ (mul_comm c a) (mul_comm c b)

less : (p n c q m d : ℕ) → p * d + m * c ≤ q * c + n * d → m ≤ q → (p - n) * d ≤ (q - m) * c
less p n c q m d h l =
    le_trans (le_of_eq (minus-mul p n d)) (le_trans (go (p * d) (m * c) (q * c) (n * d) h (mul-le-mul_right c l)) (le_of_eq (sym (minus-mul q m c))))
  where
    go : (a b x y : ℕ) → a + b ≤ x + y → b ≤ x → a - y ≤ x - b
    go a b x y h l = omega arith

swapped : (a b c d : ℕ) → a + b ≤ c + d → b + a ≤ d + c
swapped a b c d h = omega arith

none : (p n c q m d : ℕ) → 0 < c → 0 < d → p * d + m * c ≤ q * c + n * d → q ≤ m → p - n ≡ 0
none p n c q m d C D h l = go p n (le_of_mul-le-mul_right (on (p * d) (m * c) (q * c) (n * d) h (mul-le-mul_right c l)) D)
  where
    on : (a b x y : ℕ) → a + b ≤ x + y → x ≤ b → a ≤ y
    on a b x y h l = omega arith

    go : (p n : ℕ) → p ≤ n → p - n ≡ 0
    go p n h = omega arith

-- rounding keeps the order
rounds-mono : (y z : Float) (p n c q m d : ℕ) → 0 < c → 0 < d → p * d + m * c ≤ q * c + n * d → Rounds y p n c → Rounds z q m d → T (y ≤ᶠ z)
rounds-mono y z p n c q m d C D h (above k e) (above l f) = rw (e, f) (round_mono binary64 (p - n) c (q - m) d C D (less p n c q m d h l))
rounds-mono y z p n c q m d C D h (above k e) (beneath l f) =
    rw (e, f, none p n c q m d C D h l, none m q d n p c D C (swapped (p * d) (m * c) (q * c) (n * d) h) k) (zeros c d C D)
rounds-mono y z p n c q m d C D h (beneath k e) (above l f) =
    rw (e, f, round-neg (n - p) c) (across (round binary64 false (n - p) c) (round binary64 false (q - m) d) (round-upward binary64 (n - p) c) (round-upward binary64 (q - m) d))
rounds-mono y z p n c q m d C D h (beneath k e) (beneath l f) =
    rw (e, f, round-neg (n - p) c, round-neg (m - q) d)
    (neg-le (round binary64 false (m - q) d) (round binary64 false (n - p) c)
    (round_mono binary64 (m - q) d (n - p) c D C (less m q d n p c (swapped (p * d) (m * c) (q * c) (n * d) h) k)))

-- ---- a sum
sum-rounds : (s t : Bool) (a b c : ℕ) → Rounds (sum binary64 s a t b c) (over s a + over t b) (under s a + under t b) c
unfolding sum
sum-rounds false false a b c = above (omega arith) (ap (λ (x : ℕ). round binary64 false x c) (omega arith))
sum-rounds true true a b c = beneath (omega arith) (ap (λ (x : ℕ). round binary64 true x c) (omega arith))
sum-rounds false true a b c = go (ltb a b) refl
  where
    go : (t : Bool) → ltb a b ≡ t → Rounds (cond t (round binary64 true (b - a) c) (round binary64 false (a - b) c)) (a + 0) (0 + b) c
    go true e = beneath (omega (arith, ltb-true a b e)) (ap (λ (x : ℕ). round binary64 true x c) (omega arith))
    go false e = above (omega (arith, ltb-false a b e)) (ap (λ (x : ℕ). round binary64 false x c) (omega arith))
sum-rounds true false a b c = go (ltb a b) refl (ltb b a) refl
  where
    go : (t : Bool) → ltb a b ≡ t → (u : Bool) → ltb b a ≡ u → Rounds (cond t (round binary64 false (b - a) c) (round binary64 u (a - b) c)) (0 + b) (a + 0) c
    go true e u f = above (omega (arith, ltb-true a b e)) (ap (λ (x : ℕ). round binary64 false x c) (omega arith))
    go false e true f = beneath (omega (arith, ltb-false a b e)) (ap (λ (x : ℕ). round binary64 true x c) (omega arith))
    go false e false f = above (omega (arith, ltb-false b a f)) (ap (λ (x : ℕ). round binary64 false x c) (omega (arith, ltb-false a b e, ltb-false b a f)))

add_rounds : (x y : Float) → T (finite x) → T (finite y)
    → Rounds (x ⊕ y) (plus x * den y + plus y * den x) (minus x * den y + minus y * den x) (den x * den y)
unfolding add
add_rounds nan y p q = absurd p
add_rounds (inf s) y p q = absurd p
add_rounds (fin s m e) nan p q = absurd q
add_rounds (fin s m e) (inf t) p q = absurd q
add_rounds (fin s m e) (fin t n d) p q =
    rw (over-mul s (m * up e) (down d), over-mul t (n * up d) (down e), under-mul s (m * up e) (down d), under-mul t (n * up d) (down e))
    (sum-rounds s t (m * up e * down d) (n * up d * down e) (down e * down d))

-- p / d - n / d at most q / e - m / e, and so for the primed: so are the sums
sums-le : (p n d q m e p' n' d' q' m' e' : ℕ) → p * e + m * d ≤ q * d + n * e → p' * e' + m' * d' ≤ q' * d' + n' * e'
    → (p * d' + p' * d) * (e * e') + (m * e' + m' * e) * (d * d') ≤ (q * e' + q' * e) * (d * d') + (n * d' + n' * d) * (e * e')
sums-le p n d q m e p' n' d' q' m' e' h k =
    rw (add-mul (p * d') (p' * d) (e * e'), add-mul (m * e') (m' * e) (d * d'), add-mul (q * e') (q' * e) (d * d'), add-mul (n * d') (n' * d) (e * e'))
    (line
    (mul-mul-mul_comm p d' e e') (other p' d e e') (mul-mul-mul_comm m e' d d' ∙ ap (λ (x : ℕ). m * d * x) (mul_comm e' d')) (other' m' e d d')
    (mul-mul-mul_comm q e' d d' ∙ ap (λ (x : ℕ). q * d * x) (mul_comm e' d')) (other' q' e d d') (mul-mul-mul_comm n d' e e') (other n' d e e')
    (rw (add-mul (p * e) (m * d) (d' * e'), add-mul (q * d) (n * e) (d' * e')) at (mul-le-mul_right (d' * e') h))
    (rw (add-mul (p' * e') (m' * d') (d * e), add-mul (q' * d') (n' * e') (d * e)) at (mul-le-mul_right (d * e) k)))
  where
    -- p' d (e e') is p' e' (d e), and m' e (d d') is m' d' (d e)
    other : (a d e e' : ℕ) → a * d * (e * e') ≡ a * e' * (d * e)
    other a d e e' = ap (λ (x : ℕ). a * d * x) (mul_comm e e') ∙ mul-mul-mul_comm a d e' e

    other' : (a e d d' : ℕ) → a * e * (d * d') ≡ a * d' * (d * e)
    other' a e d d' = ap (λ (x : ℕ). a * e * x) (mul_comm d d') ∙ mul-mul-mul_comm a e d' d ∙ ap (λ (x : ℕ). a * d' * x) (mul_comm e d)

    line : {A B C D E F G H a b c d' e' f g h : ℕ} → A ≡ a → B ≡ b → C ≡ c → D ≡ d' → E ≡ e' → F ≡ f → G ≡ g → H ≡ h
        → a + c ≤ e' + g → b + d' ≤ f + h → A + B + (C + D) ≤ E + F + (G + H)
    line i j o r s t u w x y = omega arith

pub add-mono : (x y x' y' : Float) → T (finite x) → T (finite y) → T (finite x') → T (finite y') → T (x ≤ᶠ y) → T (x' ≤ᶠ y') → T (x ⊕ x' ≤ᶠ y ⊕ y')
add-mono x y x' y' p q p' q' h k =
    rounds-mono (x ⊕ x') (y ⊕ y') (plus x * den x' + plus x' * den x) (minus x * den x' + minus x' * den x) (den x * den x')
    (plus y * den y' + plus y' * den y) (minus y * den y' + minus y' * den y) (den y * den y')
    (mul-pos (den_pos x) (den_pos x')) (mul-pos (den_pos y) (den_pos y'))
    (sums-le (plus x) (minus x) (den x) (plus y) (minus y) (den y) (plus x') (minus x') (den x') (plus y') (minus y') (den y')
    (le_parts x y p q h) (le_parts x' y' p' q' k))
    (add_rounds x x' p p') (add_rounds y y' q q')

-- ---- a difference
pub sub-mono : (x y x' y' : Float) → T (finite x) → T (finite y) → T (finite x') → T (finite y') → T (x ≤ᶠ y) → T (x' ≤ᶠ y') → T (x ⊖ y' ≤ᶠ y ⊖ x')
unfolding sub
sub-mono x y x' y' p q p' q' h k = add-mono x y (neg y') (neg x') p q (neg-finite y' q') (neg-finite x' p') h (neg-le x' y' k)

-- ---- a product by a number with no minus sign
scale-rounds : (x y : Float) → T (non_negative x) → T (finite y) → Rounds (x ⊗ y) (num x * plus y) (num x * minus y) (den x * den y)
unfolding mul
scale-rounds nan y p q = absurd p
scale-rounds (inf s) y p q = absurd p
scale-rounds (fin true m e) y p q = absurd p
scale-rounds (fin false m e) nan p q = absurd q
scale-rounds (fin false m e) (inf t) p q = absurd q
scale-rounds (fin false m e) (fin false n d) p q =
    rw (mul-zero (m * up e)) (above (omega arith) (ap (λ (x : ℕ). round binary64 false x (down e * down d)) (sym (sub-zero (m * up e * (n * up d))))))
scale-rounds (fin false m e) (fin true n d) p q =
    rw (mul-zero (m * up e)) (beneath (omega arith) (ap (λ (x : ℕ). round binary64 true x (down e * down d)) (sym (sub-zero (m * up e * (n * up d))))))

scales-le : (k f p n d q m e : ℕ) → p * e + m * d ≤ q * d + n * e → k * p * (f * e) + k * m * (f * d) ≤ k * q * (f * d) + k * n * (f * e)
scales-le k f p n d q m e h =
    rw (mul-mul-mul_comm k p f e, mul-mul-mul_comm k m f d, mul-mul-mul_comm k q f d, mul-mul-mul_comm k n f e)
    (rw (mul_comm (p * e + m * d) (k * f), mul_comm (q * d + n * e) (k * f), mul-add (k * f) (p * e) (m * d), mul-add (k * f) (q * d) (n * e)) at (mul-le-mul_right (k * f) h))

pub scale-mono : (k x y : Float) → T (non_negative k) → T (finite x) → T (finite y) → T (x ≤ᶠ y) → T (k ⊗ x ≤ᶠ k ⊗ y)
scale-mono k x y K p q h =
    rounds-mono (k ⊗ x) (k ⊗ y) (num k * plus x) (num k * minus x) (den k * den x) (num k * plus y) (num k * minus y) (den k * den y)
    (mul-pos (den_pos k) (den_pos x)) (mul-pos (den_pos k) (den_pos y))
    (scales-le (num k) (den k) (plus x) (minus x) (den x) (plus y) (minus y) (den y) (le_parts x y p q h))
    (scale-rounds k x K p) (scale-rounds k y K q)

-- ---- what is less is at most
pub lt-le : (x y : Float) → lt x y ≡ true → T (x ≤ᶠ y)
unfolding le
lt-le x y h = rw h tt
