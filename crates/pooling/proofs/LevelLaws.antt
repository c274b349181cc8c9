-- Levels by their order: the lower and the higher of two, and the middle of three. Assumes nothing.
use Prim.Native.Nat.{◌+◌, ◌≤◌}
use mathlib.Core.Path.{◌≡◌, refl, sym, ap, ◌∙◌}
use mathlib.Core.Logic.{◌⊎◌, ◌↔◌, inl, inr}
use mathlib.Core.Bool.{Bool, true, false, true≢false}
use native.Mathlib.Omega.{arith}
use borrow.Author.Tests.{ltb-true, ltb-false, leb-true, le-ltb, le-leb, lt-leb}
use lib.IntN.{ℤ, pos, negsuc}
use lib.Signed.{lt_z, le_z}
use Rattle.std.specs.Prelude.{if◌then◌else◌}
use Rattle.pooling.specs.Pool.{lower, higher, middle}
use Rattle.pooling.specs.Claims.{Middle}

-- ---- the order of levels
le-self : (x : ℤ) → le_z x x ≡ true
le-self (pos a) = le-leb a a (omega arith)
le-self (negsuc a) = le-leb a a (omega arith)

not-less : (x y : ℤ) → lt_z y x ≡ false → le_z x y ≡ true
not-less (pos a) (pos b) e = le-leb a b (ltb-false b a e)
not-less (pos a) (negsuc b) e = absurd (true≢false e)
not-less (negsuc a) (pos b) e = refl
not-less (negsuc a) (negsuc b) e = le-leb b a (ltb-false a b e)

less : (x y : ℤ) → lt_z y x ≡ true → le_z y x ≡ true
less (pos a) (pos b) e = let h = ltb-true b a e in le-leb b a (omega arith)
less (pos a) (negsuc b) e = refl
less (negsuc a) (pos b) e = absurd (true≢false (sym e))
less (negsuc a) (negsuc b) e = let h = ltb-true a b e in le-leb a b (omega arith)

not-above : (x y : ℤ) → le_z x y ≡ true → lt_z y x ≡ false
not-above (pos a) (pos b) e = le-ltb b a (leb-true a b e)
not-above (pos a) (negsuc b) e = absurd (true≢false (sym e))
not-above (negsuc a) (pos b) e = refl
not-above (negsuc a) (negsuc b) e = le-ltb a b (leb-true b a e)

-- of two, each no lower than the other
same : (x y : ℤ) → lt_z x y ≡ false → lt_z y x ≡ false → x ≡ y
same (pos a) (pos b) e f = let h = ltb-false a b e in let k = ltb-false b a f in ap pos (omega arith)
same (pos a) (negsuc b) e f = absurd (true≢false f)
same (negsuc a) (pos b) e f = absurd (true≢false e)
same (negsuc a) (negsuc b) e f = let h = ltb-false b a e in let k = ltb-false a b f in ap negsuc (omega arith)

-- a level that is no higher than m is lower than n, where m is
below_both : (w m n : ℤ) → lt_z m n ≡ true → le_z w m ≡ true → le_z n w ≡ false
below_both (pos c) (pos a) (pos b) e f = let h = ltb-true a b e in let k = leb-true c a f in lt-leb b c (omega arith)
below_both (pos c) (pos a) (negsuc b) e f = absurd (true≢false (sym e))
below_both (pos c) (negsuc a) n e f = absurd (true≢false (sym f))
below_both (negsuc c) (pos a) (pos b) e f = refl
below_both (negsuc c) (pos a) (negsuc b) e f = absurd (true≢false (sym e))
below_both (negsuc c) (negsuc a) (pos b) e f = refl
below_both (negsuc c) (negsuc a) (negsuc b) e f = let h = ltb-true b a e in let k = leb-true a c f in lt-leb c b (omega arith)

-- ---- the lower and the higher of two
pub record Ordered (x y l h : ℤ) : Type 0 where
  pub order : le_z x y ≡ true
  pub low : l ≡ x
  pub high : h ≡ y

pub ordered : (x y : ℤ) → le_z x y ≡ true → Ordered x y (lower x y) (higher x y)
unfolding lower higher
ordered x y e = record { order = e; low = rw (not-above x y e) refl; high = rw (not-above x y e) refl }

-- two levels, one way round or the other
pub sides : (x y : ℤ) → Ordered x y (lower x y) (higher x y) ⊎ Ordered y x (lower x y) (higher x y)
unfolding lower higher
sides x y = by (lt_z y x) refl
  where
    by : (t : Bool) → lt_z y x ≡ t → Ordered x y (lower x y) (higher x y) ⊎ Ordered y x (lower x y) (higher x y)
    by true e = inr (record { order = less x y e; low = rw e refl; high = rw e refl })
    by false e = inl (record { order = not-less x y e; low = rw e refl; high = rw e refl })

-- ---- the middle of three
between : (x y z : ℤ) → le_z x y ≡ true → le_z y z ≡ true → Middle x y z y
between x y z e f = record { under = rw (e, le-self y) (omega arith); over = rw (f, le-self y) (omega arith) }

pub first_two : {x y z m : ℤ} → Middle x y z m → Middle y x z m
first_two h = record { under = omega (arith, h.under); over = omega (arith, h.over) }

pub last_two : {x y z m : ℤ} → Middle x y z m → Middle x z y m
last_two h = record { under = omega (arith, h.under); over = omega (arith, h.over) }

-- "at least two readings no higher and at least two no lower"; and it is one of the three
pub record IsMiddle (x y z m : ℤ) : Type 0 where
  pub is : Middle x y z m
  pub one : (x ≡ m) ⊎ (y ≡ m) ⊎ (z ≡ m)

-- where x is no higher than y
by-third : (x y z : ℤ) → le_z x y ≡ true → IsMiddle x y z (higher x (lower y z))
by-third x y z e = by (sides y z)
  where
    lowest : le_z z y ≡ true → Ordered x z (lower x z) (higher x z) ⊎ Ordered z x (lower x z) (higher x z) → IsMiddle x y z (higher x z)
    lowest f (inl p) = rw p.high (record { is = last_two (between x z y p.order f); one = inr (inr refl) })
    lowest f (inr p) = rw p.high (record { is = last_two (first_two (between z x y p.order e)); one = inl refl })

    by : Ordered y z (lower y z) (higher y z) ⊎ Ordered z y (lower y z) (higher y z) → IsMiddle x y z (higher x (lower y z))
    by (inl p) = rw (p.low, (ordered x y e).high) (record { is = between x y z e p.order; one = inr (inl refl) })
    by (inr p) = rw p.low (lowest p.order (sides x z))

turned : {x y z m : ℤ} → IsMiddle y x z m → IsMiddle x y z m
turned {x} {y} {z} {m} h = record { is = first_two h.is; one = by h.one }
  where
    by : (y ≡ m) ⊎ (x ≡ m) ⊎ (z ≡ m) → (x ≡ m) ⊎ (y ≡ m) ⊎ (z ≡ m)
    by (inl e) = inr (inl e)
    by (inr (inl e)) = inl e
    by (inr (inr e)) = inr (inr e)

pub is-middle : (x y z : ℤ) → IsMiddle x y z (middle x y z)
unfolding middle
is-middle x y z = by (sides x y)
  where
    by : Ordered x y (lower x y) (higher x y) ⊎ Ordered y x (lower x y) (higher x y) → IsMiddle x y z (higher (lower x y) (lower (higher x y) z))
    by (inl o) = rw (o.low, o.high) (by-third x y z o.order)
    by (inr o) = rw (o.low, o.high) (turned (by-third y x z o.order))

-- ---- and no other level is
once_by : (s t : Bool) → (s ≡ true → t ≡ false) → (if s then 1 else 0) + (if t then 1 else 0) ≤ 1
once_by true true h = absurd (true≢false (h refl))
once_by true false h = omega arith
once_by false true h = omega arith
once_by false false h = omega arith

-- a level is no higher than m, or no lower than the higher n, and never both
once : (w m n : ℤ) → lt_z m n ≡ true → (if le_z w m then 1 else 0) + (if le_z n w then 1 else 0) ≤ 1
once w m n e = once_by (le_z w m) (le_z n w) (below_both w m n e)

not-higher : (x y z m n : ℤ) → Middle x y z m → Middle x y z n → lt_z m n ≡ false
not-higher x y z m n h k = by (lt_z m n) refl
  where
    by : (t : Bool) → lt_z m n ≡ t → lt_z m n ≡ false
    by true e = absurd (omega (arith, once x m n e, once y m n e, once z m n e, h.under, k.over))
    by false e = e

only-middle : (x y z m : ℤ) → Middle x y z m → m ≡ middle x y z
only-middle x y z m h =
    let k = (is-middle x y z).is in
    same m (middle x y z) (not-higher x y z m (middle x y z) h k) (not-higher x y z (middle x y z) m k h)

-- "The middle is the level with at least two readings no higher and at least two no lower"
pub middle-is : (x y z m : ℤ) → Middle x y z m ↔ (m ≡ middle x y z)
middle-is x y z m = (only-middle x y z m, λ e. rw e (is-middle x y z).is)

-- ---- so their order does not matter
pub lower-swap : (x y : ℤ) → lower x y ≡ lower y x
unfolding lower
lower-swap x y = by (lt_z y x) (lt_z x y) refl refl
  where
    by : (s t : Bool) → lt_z y x ≡ s → lt_z x y ≡ t → (if s then y else x) ≡ (if t then x else y)
    by true true e f = absurd (true≢false (sym e ∙ not-above x y (less y x f)))
    by true false e f = refl
    by false true e f = refl
    by false false e f = same x y f e

pub middle-first-two : (x y z : ℤ) → middle x y z ≡ middle y x z
middle-first-two x y z = only-middle y x z (middle x y z) (first_two (is-middle x y z).is)

pub middle-last-two : (x y z : ℤ) → middle x y z ≡ middle x z y
middle-last-two x y z = only-middle x z y (middle x y z) (last_two (is-middle x y z).is)
