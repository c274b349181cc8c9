-- Rounding an f64 to an f32 on its bits, as `digits` and `narrow_bits` do, is rounding its value. Assumes nothing.
use Rattle.std.proofs.Common.{◌≡◌, ℕ, zero, suc, ◌+◌, ◌-◌, ◌*◌, ◌/◌, ◌%◌, ◌^◌, ◌<◌, ◌≤◌, min, Bool, true, false, cond, not, ◌&&◌, T, eqb, ltb, leb, ℤ, pos, negsuc, sym, refl, ap, ◌∙◌, subst, inl, inr, true≢false, zero-le, le_trans, le_of_eq, le_refl, lt_of_lt_of_le, le_of_suc-le-suc, lt_of_le_of_lt, lt_irrefl, mul-le-mul_right, mod-eq_of_lt, zero-lt-suc, mul_assoc, mul_comm, div-lt_iff_lt-mul, eq-zero-or-pos, eq-or-lt_of_le, mul-le-mul_left, mul-pos, one-mul, lt_of_not-le, le-div_iff_mul-le, mul-one, not-le_of_lt, mul-div_cancel, arith, lit<, lit≤, eqb→eq, ltb→lt, leb→le, nltb→le, pow_pos, pow_mono, pow-add, shl_lt, shr_lt, eq-eqb, ne_eqb, le-leb}
use Prim.Native.Nat.{compare, Ordering}
use mathlib.Core.Bool.{false≢true}
use native.Mathlib.Nat.{mul-div-mul_right, mul-add-div_right, mul-add-mod_self_right, div-eq_of_lt, pow-succ'}
use borrow.Author.Tests.{lt-leb}
use lib.Dec.{is_le, compare_is_eq, nleb→lt}
use lib.Arith.{le→nltb}
use lib.Pow.{pow-lt}
use lib.Ieee.{Float, nan, inf, fin, Format, binary32, binary64, prec, emax, low, hid, top, up, down, size, nearest, odd, units, round, neg, fits, to_bits, of_fields, of_bits, nan_bits, is_nan, div}
use lib.Ieee.Digits.{size-lt, size-le, size_reaches}
use lib.Ieee.Fits.{round_is, round-fits, nan-fits, inf-fits, fits_widens, nearest-le, kept-lt, up_pos, down_pos, and_l, and_r, neg-fits, and_i}
use lib.Ieee.Exact.{HasValue, units_val}
use lib.Ieee.Nearest.{closest, closest_same, nearest-ge}
use lib.Ieee.Scale.{round_same}
use lib.Ieee.Bits.{of_bits-to_bits, to_bits-lt, nan_bits_above, nan_bits_is, cond_no}
use Rattle.numeric.specs.Convert.{narrowed}
use Rattle.numeric.proofs.Bits.{bits-lt}
use Rattle.numeric.proofs.Tested.{both_left, both_right}
use Rattle.numeric.specs.Patterns.{digits, narrow_bits, plain, wide_bits}

-- ---- what `compare` says
pub cmp-lt : (a b : ℕ) → a < b → compare a b ≡ Ordering.lt
cmp-lt a b h = go (compare a b) (le-leb a b (omega arith)) (ne_eqb a b (λ e. omega arith))
  where
    go : (o : Ordering) → is_le o ≡ true → compare_is_eq o ≡ false → o ≡ Ordering.lt
    go Ordering.lt l e = refl
    go Ordering.eq l e = absurd (true≢false e)
    go Ordering.gt l e = absurd (false≢true l)

pub cmp-eq : (a b : ℕ) → a ≡ b → compare a b ≡ Ordering.eq
cmp-eq a b h = go (compare a b) (eq-eqb a b h)
  where
    go : (o : Ordering) → compare_is_eq o ≡ true → o ≡ Ordering.eq
    go Ordering.lt e = absurd (false≢true e)
    go Ordering.eq e = refl
    go Ordering.gt e = absurd (false≢true e)

pub cmp-gt : (a b : ℕ) → b < a → compare a b ≡ Ordering.gt
cmp-gt a b h = go (compare a b) (lt-leb a b h)
  where
    go : (o : Ordering) → is_le o ≡ false → o ≡ Ordering.gt
    go Ordering.lt l = absurd (true≢false l)
    go Ordering.eq l = absurd (true≢false l)
    go Ordering.gt l = refl

-- ---- rounding: half a unit less is added, and one more where the quotient is odd
module _ (d : ℕ) where
  abbrev quotient : ℕ
  quotient = d / 0x2000_0000

  abbrev added : ℕ
  added = (d + 0xFFF_FFFF + d / 0x2000_0000 % 2) / 0x2000_0000

  down_to : d % 0x2000_0000 * 2 < 0x2000_0000 → added ≡ quotient
  down_to h = omega arith

  even-to : d % 0x2000_0000 * 2 ≡ 0x2000_0000 → added ≡ quotient + quotient % 2
  even-to h = omega arith

  up_to : 0x2000_0000 < d % 0x2000_0000 * 2 → added ≡ suc quotient
  up_to h = omega arith

  at_least : 0x2000_0000 - d % 0x2000_0000 * 2 ≡ 0 → 0x2000_0000 ≤ d % 0x2000_0000 * 2
  at_least z = omega arith

  at_most : 0 < 0x2000_0000 - d % 0x2000_0000 * 2 → d % 0x2000_0000 * 2 < 0x2000_0000
  at_most p = omega arith

  pub rounded : added ≡ closest d 0x2000_0000
  rounded =
      elim (eq-zero-or-pos (0x2000_0000 - d % 0x2000_0000 * 2)) [
        | inl z ↦
            elim (eq-or-lt_of_le (at_least z)) [
              | inl e ↦ even-to (sym e) ∙ sym (ap (nearest quotient) (cmp-eq _ _ (sym e)))
              | inr l ↦ up_to l ∙ sym (ap (nearest quotient) (cmp-gt _ _ l))
            ]
        | inr p ↦ down_to (at_most p) ∙ sym (ap (nearest quotient) (cmp-lt _ _ (at_most p)))
      ]

-- ---- how many digits
size-shr : (n j : ℕ) → size (n / 2 ^ j) ≡ size n - j
size-shr n j =
    same (size (n / 2 ^ j)) (size n) j
    (size-le n (size (n / 2 ^ j) + j) (rw pow-add ((div-lt_iff_lt-mul (pow_pos j)).0 (size-lt (n / 2 ^ j)))))
    (size-le (n / 2 ^ j) (size n - j) (shr_lt (size n - j) j (lt_of_lt_of_le (size-lt n) (pow_mono (covers (size n) j)))))
  where
    covers : (z j : ℕ) → z ≤ z - j + j
    covers z j = omega arith

    same : (x y j : ℕ) → y ≤ x + j → x ≤ y - j → x ≡ y - j
    same x y j a b = omega arith

-- d has p + 1 digits
size_is : (p d k : ℕ) → 2 ^ p ≤ d → d < 2 ^ suc p → size (d * 2 ^ k) ≡ suc (p + k)
size_is p d k a b =
    same (size (d * 2 ^ k)) p k (size-le (d * 2 ^ k) (suc p + k) (shl_lt (suc p) k b))
    (lt_of_not-le (λ (g : size (d * 2 ^ k) ≤ p + k). not-le_of_lt (lt_of_lt_of_le (size-lt (d * 2 ^ k)) (pow_mono g)) (rw pow-add (mul-le-mul_right (2 ^ k) a))))
  where
    same : (z p k : ℕ) → z ≤ suc p + k → p + k < z → z ≡ suc (p + k)
    same z p k a b = omega arith

-- ---- an f64's digits and exponent, and its bits
le-back : (i j : ℕ) → 2 ^ i ≤ 2 ^ j → i ≤ j
le-back i j h = le_of_suc-le-suc (lt_of_not-le (λ (g : suc j ≤ i). not-le_of_lt (pow-lt g) h))

join : (j k : ℕ) → k ≤ j → j - k + k ≡ j
join j k h = omega arith

place : (l : ℕ) (e : ℤ) → down e ≤ 2 ^ l → (j : ℕ) × ((m : ℕ) → m * up e * 2 ^ l ≡ m * 2 ^ j * down e)
place l (pos k) h = (k + l, λ m. mul_assoc m (2 ^ k) (2 ^ l) ∙ ap (λ (x : ℕ). m * x) (sym (pow-add 2 k l)) ∙ sym (mul-one (m * 2 ^ (k + l))))
place l (negsuc k) h = (
  l - suc k,
  λ m. ap (λ (x : ℕ). x * 2 ^ l) (mul-one m)
      ∙ ap (λ (x : ℕ). m * x) (ap (λ (x : ℕ). 2 ^ x) (sym (join l (suc k) (le-back (suc k) l h))) ∙ pow-add 2 (l - suc k) (suc k))
      ∙ sym (mul_assoc m (2 ^ (l - suc k)) (2 ^ suc k)),
)

-- what `fits` says
fits-says : (s : Bool) (m : ℕ) (e : ℤ) → T (fits binary64 (fin s m e)) → (m < 2 ^ 53) × (down e ≤ 2 ^ 1074)
unfolding fits
fits-says s zero e h =
    (lit< tt, le_trans (le_of_eq (sym (one-mul (down e)))) (le_trans (mul-le-mul_right (down e) (up_pos e)) (le_trans (le_of_eq (eqb→eq (up e * down e) 1 h)) (lit≤ tt))))
fits-says s (suc m) e h =
    let A = eqb (suc m % 2) 1 in
    let B = ltb (suc m) (2 ^ prec binary64) in
    let C = leb (down e) (2 ^ low binary64) in
    let D = ltb (suc m * up e) (2 ^ suc (emax binary64) * down e) in (
      ltb→lt (suc m) (2 ^ 53) (and_r A B (and_l (A && B) C (and_l (A && B && C) D h))),
      leb→le (down e) (2 ^ 1074) (and_r (A && B) C (and_l (A && B && C) D h)),
    )

pub record Parts (s : Bool) (m : ℕ) (e : ℤ) : Type 0 where
  pub d : ℕ
  pub k : ℕ
  pub d-lt : d < 2 ^ 53
  pub d-ge : 0 < k → 2 ^ 52 ≤ d
  pub bits : to_bits binary64 (fin s m e) ≡ cond s (top binary64) 0 + k * hid binary64 + d
  pub val : m * up e * 2 ^ 1074 ≡ d * 2 ^ k * down e

to_bits_is : (f : Format) (s : Bool) (m : ℕ) (e : ℤ) (n : ℕ) → m * up e * 2 ^ low f / down e ≡ n
    → to_bits f (fin s m e) ≡ cond s (top f) 0 + (size n - prec f) * hid f + n / 2 ^ (size n - prec f)
unfolding to_bits
to_bits_is f s m e n p = ap (λ (x : ℕ). cond s (top f) 0 + (size x - prec f) * hid f + x / 2 ^ (size x - prec f)) p

pub parts : (s : Bool) (m : ℕ) (e : ℤ) → T (fits binary64 (fin s m e)) → Parts s m e
parts s m e h =
    let w = fits-says s m e h in
    let pl = place 1074 e w.1 in
    let j = pl.0 in
    let n = m * 2 ^ j in
    let k = size n - 53 in
    let k-le : k ≤ j = spare (size n) 53 j (size-le n (53 + j) (shl_lt 53 j w.0)) in
    let d = m * 2 ^ (j - k) in
    let cut : d * 2 ^ k ≡ n = mul_assoc m (2 ^ (j - k)) (2 ^ k) ∙ ap (λ (x : ℕ). m * x) (sym (pow-add 2 (j - k) k) ∙ ap (λ (x : ℕ). 2 ^ x) (join j k k-le)) in
    let kept : n / 2 ^ k ≡ d = ap (λ (x : ℕ). x / 2 ^ k) (sym cut) ∙ mul-div_cancel d (pow_pos k) in
    record {
      d = d;
      k = k;
      d-lt = subst (λ (x : ℕ). x < 2 ^ 53) kept (kept-lt 53 n);
      d-ge = λ p. subst (λ (x : ℕ). 2 ^ 52 ≤ x) kept
          ((le-div_iff_mul-le (pow_pos k)).1 (le_trans (le_of_eq (sym (pow-add 2 52 k))) (size_reaches n (52 + k) (above (size n) 52 p))));
      bits = to_bits_is binary64 s m e n (ap (λ (x : ℕ). x / down e) (pl.1 m) ∙ mul-div_cancel n (down_pos e)) ∙ ap (λ (x : ℕ). cond s (top binary64) 0 + k * hid binary64 + x) kept;
      val = pl.1 m ∙ ap (λ (x : ℕ). x * down e) (sym cut);
    }
  where
    spare : (z p j : ℕ) → z ≤ p + j → z - p ≤ j
    spare z p j h = omega arith

    above : (z p : ℕ) → 0 < z - suc p → p + (z - suc p) < z
    above z p h = omega arith

-- ---- to an f32, in terms of those digits
-- N / 2 ^ 1074 rounded, with K digits dropped
at_drop : (N K : ℕ) → size N - 925 - 24 ≡ K → round binary32 false N (2 ^ 1074) ≡ units binary32 false (closest N (2 ^ 925 * 2 ^ K)) K
at_drop N K h =
    let z : size (N * 2 ^ 149 / 2 ^ 1074) - 24 ≡ K = ap (λ (x : ℕ). size x - 24) (mul-div-mul_right {m = 2 ^ 149} N (2 ^ 925) (pow_pos 149)) ∙ ap (λ (x : ℕ). x - 24) (size-shr N 925) ∙ h in
    round_is binary32 false N (2 ^ 1074)
    ∙ ap (λ (x : ℕ). units binary32 false (closest (N * 2 ^ 149) (2 ^ 1074 * 2 ^ x)) x) z
    ∙ ap (λ (x : ℕ). units binary32 false x K)
    (closest_same (N * 2 ^ 149) (2 ^ 1074 * 2 ^ K) N (2 ^ 925 * 2 ^ K) (mul-pos (pow_pos 1074) (pow_pos K)) (mul-pos (pow_pos 925) (pow_pos K)) (same N (2 ^ 149) (2 ^ 925) (2 ^ K)))
  where
    same : (n a b c : ℕ) → n * a * (b * c) ≡ n * (b * a * c)
    same n a b c = simp (mul_assoc, mul_comm)

pub normal : (d k : ℕ) → 2 ^ 52 ≤ d → d < 2 ^ 53 → 896 ≤ k → round binary32 false (d * 2 ^ k) (2 ^ 1074) ≡ units binary32 false (closest d (2 ^ 29)) (k - 896)
normal d k a b h =
    at_drop (d * 2 ^ k) (k - 896) (dropped (size (d * 2 ^ k)) k h (size_is 52 d k a b))
    ∙ ap (λ (x : ℕ). units binary32 false x (k - 896))
    (closest_same (d * 2 ^ k) (2 ^ 925 * 2 ^ (k - 896)) d (2 ^ 29) (mul-pos (pow_pos 925) (pow_pos (k - 896))) (pow_pos 29)
    (mul_assoc d (2 ^ k) (2 ^ 29) ∙ ap (λ (x : ℕ). d * x) (sym (pow-add 2 k 29) ∙ ap (λ (x : ℕ). 2 ^ x) (lift k h) ∙ pow-add 2 925 (k - 896))))
  where
    dropped : (z k : ℕ) → 896 ≤ k → z ≡ suc (52 + k) → z - 925 - 24 ≡ k - 896
    dropped z k h e = omega arith

    lift : (k : ℕ) → 896 ≤ k → k + 29 ≡ 925 + (k - 896)
    lift k h = omega arith

pub small : (d k : ℕ) → d < 2 ^ 53 → k ≤ 895 → round binary32 false (d * 2 ^ k) (2 ^ 1074) ≡ units binary32 false (closest d (2 ^ (925 - k))) 0
small d k b h =
    at_drop (d * 2 ^ k) 0 (none (size (d * 2 ^ k)) k h (size-le (d * 2 ^ k) (53 + k) (shl_lt 53 k b)))
    ∙ ap (λ (x : ℕ). units binary32 false x 0)
    (closest_same (d * 2 ^ k) (2 ^ 925 * 2 ^ 0) d (2 ^ (925 - k)) (lit< tt) (pow_pos (925 - k))
    (mul_assoc d (2 ^ k) (2 ^ (925 - k)) ∙ ap (λ (x : ℕ). d * x) (sym (pow-add 2 k (925 - k)) ∙ ap (λ (x : ℕ). 2 ^ x) (fall k h))))
  where
    none : (z k : ℕ) → k ≤ 895 → z ≤ 53 + k → z - 925 - 24 ≡ 0
    none z k h e = omega arith

    fall : (k : ℕ) → k ≤ 895 → k + (925 - k) ≡ 925
    fall k h = omega arith

-- ---- `closest`
nearest-shift : (c q : ℕ) (o : Ordering) → c % 2 ≡ 0 → nearest (c + q) o ≡ c + nearest q o
nearest-shift c q Ordering.lt h = refl
nearest-shift c q Ordering.eq h = even c q h
  where
    even : (c q : ℕ) → c % 2 ≡ 0 → c + q + (c + q) % 2 ≡ c + (q + q % 2)
    even c q h = omega arith
nearest-shift c q Ordering.gt h = next c q
  where
    next : (c q : ℕ) → suc (c + q) ≡ c + suc q
    next c q = omega arith

pub closest-shift : (c d u : ℕ) → 0 < u → c % 2 ≡ 0 → closest (c * u + d) u ≡ c + closest d u
closest-shift c d u U h =
    ap (λ (x : ℕ). nearest x (compare ((c * u + d) % u * 2) u)) (mul-add-div_right U c d)
    ∙ ap (λ (x : ℕ). nearest (c + d / u) (compare (x * 2) u)) (mul-add-mod_self_right c u d)
    ∙ nearest-shift c (d / u) (compare (d % u * 2) u) h

pub closest-le : (d u b : ℕ) → 0 < u → d < b * u → closest d u ≤ b
closest-le d u b U h = le_trans (nearest-le (d / u) (compare (d % u * 2) u)) ((div-lt_iff_lt-mul U).1 h)

pub closest-ge : (d u b : ℕ) → 0 < u → b * u ≤ d → b ≤ closest d u
closest-ge d u b U h = le_trans ((le-div_iff_mul-le U).1 h) (nearest-ge (d / u) (compare (d % u * 2) u))

pub closest-zero : (d u : ℕ) → d * 2 < u → closest d u ≡ 0
closest-zero d u h =
    let l : d < u = omega arith in
    ap (λ (x : ℕ). nearest x (compare (d % u * 2) u)) (div-eq_of_lt l)
    ∙ ap (λ (x : ℕ). nearest 0 (compare (x * 2) u)) (mod-eq_of_lt l)
    ∙ ap (λ (o : Ordering). nearest 0 o) (cmp-lt (d * 2) u h)

-- ---- an f32's bits, from what `units` is handed
bits_of : (x : Float) (n : ℕ) → HasValue x false n (2 ^ 149) → to_bits binary32 x ≡ 0 + (size n - 24) * hid binary32 + n / 2 ^ (size n - 24)
bits_of nan n h = absurd h
bits_of (inf s) n h = absurd h
bits_of (fin true m e) n h = absurd (true≢false h.0)
bits_of (fin false m e) n h = to_bits_is binary32 false m e n (ap (λ (x : ℕ). x / down e) h.1 ∙ mul-div_cancel n (down_pos e))

-- the bits of Q * 2 ^ k units
abbrev Coded : ℕ → ℕ → ℕ → Type 0
Coded Q n k = 0 + (size n - 24) * hid binary32 + n / 2 ^ (size n - 24) ≡ k * 2 ^ 23 + Q

at : (z k : ℕ) → z ≡ suc (23 + k) → z - 24 ≡ k
at z k e = omega arith

coded-mid : (Q k : ℕ) → 2 ^ 23 ≤ Q → Q < 2 ^ 24 → Coded Q (Q * 2 ^ k) k
coded-mid Q k a b =
    ap (λ (K : ℕ). 0 + K * hid binary32 + Q * 2 ^ k / 2 ^ K) (at (size (Q * 2 ^ k)) k (size_is 23 Q k a b))
    ∙ ap (λ (x : ℕ). 0 + k * hid binary32 + x) (mul-div_cancel Q (pow_pos k))
    ∙ plus Q k
  where
    plus : (Q k : ℕ) → 0 + k * hid binary32 + Q ≡ k * 2 ^ 23 + Q
    plus Q k = omega arith

coded-low : (Q : ℕ) → Q < 2 ^ 23 → Coded Q (Q * 2 ^ 0) 0
coded-low Q h =
    ap (λ (K : ℕ). 0 + K * hid binary32 + Q * 2 ^ 0 / 2 ^ K) (zero-drop (size (Q * 1)) (size-le (Q * 1) 23 (rw mul-one h)))
    ∙ ap (λ (x : ℕ). 0 + 0 * hid binary32 + x) (mul-div_cancel Q (zero-lt-suc 0))
    ∙ plus Q
  where
    zero-drop : (z : ℕ) → z ≤ 23 → z - 24 ≡ 0
    zero-drop z e = omega arith

    plus : (Q : ℕ) → 0 + 0 * hid binary32 + Q ≡ 0 * 2 ^ 23 + Q
    plus Q = omega arith

coded-top : (k : ℕ) → Coded (2 ^ 24) (2 ^ 24 * 2 ^ k) k
coded-top k =
    ap (λ (K : ℕ). 0 + K * hid binary32 + 2 ^ 24 * 2 ^ k / 2 ^ K) (at (size (2 ^ 24 * 2 ^ k)) (suc k) (size_is 24 (2 ^ 24) k (le_refl (2 ^ 24)) (lit< tt) ∙ step k))
    ∙ ap (λ (x : ℕ). 0 + suc k * hid binary32 + x) (ap (λ (x : ℕ). x / 2 ^ suc k) (double (2 ^ 23) (2 ^ k) ∙ ap (λ (x : ℕ). 2 ^ 23 * x) (sym (pow-succ' 2 k))) ∙ mul-div_cancel (2 ^ 23) (pow_pos (suc k)))
    ∙ plus k
  where
    step : (k : ℕ) → suc (24 + k) ≡ suc (23 + suc k)
    step k = omega arith

    double : (a b : ℕ) → a * 2 * b ≡ a * (2 * b)
    double a b = mul_assoc a 2 b

    plus : (k : ℕ) → 0 + suc k * hid binary32 + 2 ^ 23 ≡ k * 2 ^ 23 + 2 ^ 24
    plus k = omega arith

coded : (Q k : ℕ) → Q ≤ 2 ^ 24 → (0 < k → 2 ^ 23 ≤ Q) → Coded Q (Q * 2 ^ k) k
coded Q k a g =
    elim (eq-or-lt_of_le a) [
      | inl e ↦ subst (λ (x : ℕ). Coded x (x * 2 ^ k) k) (sym e) (coded-top k)
      | inr l ↦ under k g l
    ]
  where
    mid : (k : ℕ) → Q < 2 ^ 24 → (b : Bool) → (T b → Q < 2 ^ 23) → (T (not b) → 2 ^ 23 ≤ Q) → Coded Q (Q * 2 ^ 0) 0
    mid k l true h n = coded-low Q (h tt)
    mid k l false h n = coded-mid Q 0 (n tt) l

    under : (k : ℕ) → (0 < k → 2 ^ 23 ≤ Q) → Q < 2 ^ 24 → Coded Q (Q * 2 ^ k) k
    under zero g l = mid zero l (ltb Q (2 ^ 23)) (ltb→lt Q (2 ^ 23)) (nltb→le Q (2 ^ 23))
    under (suc k) g l = coded-mid Q (suc k) (g (zero-lt-suc k)) l

-- below the infinity's pattern
k-le : (Q k : ℕ) → (0 < k → 2 ^ 23 ≤ Q) → k * 2 ^ 23 + Q < 0x7F80_0000 → k ≤ 253
k-le Q zero g h = zero-le
k-le Q (suc k) g h = go Q k (g (zero-lt-suc k)) h
  where
    go : (Q k : ℕ) → 2 ^ 23 ≤ Q → suc k * 2 ^ 23 + Q < 0x7F80_0000 → suc k ≤ 253
    go Q k a b = omega arith

under-limit : (Q k : ℕ) → Q ≤ 2 ^ 24 → (0 < k → 2 ^ 23 ≤ Q) → k * 2 ^ 23 + Q < 0x7F80_0000 → Q * 2 ^ k < 2 ^ 277
under-limit Q k a g h =
    elim (eq-or-lt_of_le (k-le Q k g h)) [
      | inl e ↦ lt_of_lt_of_le (shl_lt 24 k (at-end Q k e h)) (pow_mono (end k e))
      | inr l ↦ lt_of_lt_of_le (shl_lt 25 k (lt_of_le_of_lt a (lit< tt))) (pow_mono (room k l))
    ]
  where
    at-end : (Q k : ℕ) → k ≡ 253 → k * 2 ^ 23 + Q < 0x7F80_0000 → Q < 2 ^ 24
    at-end Q k e h = omega arith

    end : (k : ℕ) → k ≡ 253 → 24 + k ≤ 277
    end k e = omega arith

    room : (k : ℕ) → k < 253 → 25 + k ≤ 277
    room k e = omega arith

pub encode-under : (Q k : ℕ) → Q ≤ 2 ^ 24 → (0 < k → 2 ^ 23 ≤ Q) → T (fits binary32 (units binary32 false Q k)) → k * 2 ^ 23 + Q < 0x7F80_0000 → of_bits binary32 (k * 2 ^ 23 + Q) ≡ units binary32 false Q k
encode-under Q k a g f h =
    let v = units binary32 false Q k in
    let e : to_bits binary32 v ≡ k * 2 ^ 23 + Q = bits_of v (Q * 2 ^ k) (units_val binary32 false Q k (under-limit Q k a g h)) ∙ coded Q k a g in
    ap (λ (x : ℕ). of_bits binary32 x) (sym e) ∙ of_bits-to_bits binary32 v f

over-limit : (Q k : ℕ) → Q ≤ 2 ^ 24 → (0 < k → 2 ^ 23 ≤ Q) → 0x7F80_0000 ≤ k * 2 ^ 23 + Q → 2 ^ 277 ≤ Q * 2 ^ k
over-limit Q k a g h =
    elim (eq-or-lt_of_le (low-k Q k a h)) [
      | inl e ↦ subst (λ (x : ℕ). 2 ^ 277 ≤ Q * 2 ^ x) e (le_trans (le_of_eq (pow-add 2 24 253)) (mul-le-mul_right (2 ^ 253) (at-end Q k (sym e) h)))
      | inr l ↦ le_trans (pow_mono (room k l)) (le_trans (le_of_eq (pow-add 2 23 k)) (mul-le-mul_right (2 ^ k) (g (some k l))))
    ]
  where
    low-k : (Q k : ℕ) → Q ≤ 2 ^ 24 → 0x7F80_0000 ≤ k * 2 ^ 23 + Q → 253 ≤ k
    low-k Q k a h = omega arith

    at-end : (Q k : ℕ) → k ≡ 253 → 0x7F80_0000 ≤ k * 2 ^ 23 + Q → 2 ^ 24 ≤ Q
    at-end Q k e h = omega arith

    room : (k : ℕ) → 253 < k → 277 ≤ 23 + k
    room k e = omega arith

    some : (k : ℕ) → 253 < k → 0 < k
    some k e = omega arith

pub encode-over : (Q k : ℕ) → Q ≤ 2 ^ 24 → (0 < k → 2 ^ 23 ≤ Q) → 0x7F80_0000 ≤ k * 2 ^ 23 + Q → units binary32 false Q k ≡ inf false
unfolding units
encode-over Q k a g h = cond_no (ltb (Q * 2 ^ k) (2 ^ 277)) (odd 25 false Q k 149) (inf false) (le→nltb (Q * 2 ^ k) (2 ^ 277) (over-limit Q k a g h))

-- ---- the whole
inf_bits : of_bits binary32 0x7F80_0000 ≡ inf false
unfolding of_bits
inf_bits = refl

capped : (P : ℕ) → P < 0x7F80_0000 → min P 0x7F80_0000 ≡ P
capped P h = omega arith

capped' : (P : ℕ) → 0x7F80_0000 ≤ P → min P 0x7F80_0000 ≡ 0x7F80_0000
capped' P h = omega arith

pub encode : (Q k : ℕ) → Q ≤ 2 ^ 24 → (0 < k → 2 ^ 23 ≤ Q) → T (fits binary32 (units binary32 false Q k)) → of_bits binary32 (min (k * 2 ^ 23 + Q) 0x7F80_0000) ≡ units binary32 false Q k
encode Q k a g f = let P = k * 2 ^ 23 + Q in go P refl (ltb P 0x7F80_0000) (ltb→lt P 0x7F80_0000) (nltb→le P 0x7F80_0000)
  where
    go : (P : ℕ) → P ≡ k * 2 ^ 23 + Q → (b : Bool) → (T b → P < 0x7F80_0000) → (T (not b) → 0x7F80_0000 ≤ P) → of_bits binary32 (min P 0x7F80_0000) ≡ units binary32 false Q k
    go P e true h n = ap (λ (x : ℕ). of_bits binary32 x) (capped P (h tt) ∙ e) ∙ encode-under Q k a g f (subst (λ (x : ℕ). x < 0x7F80_0000) e (h tt))
    go P e false h n = ap (λ (x : ℕ). of_bits binary32 x) (capped' P (n tt)) ∙ inf_bits ∙ sym (encode-over Q k a g (subst (λ (x : ℕ). 0x7F80_0000 ≤ x) e (n tt)))

-- ---- `digits` by cases
pub digits-normal : (b : ℕ) → 0x3810_0000_0000_0000 ≤ b → digits b ≡ closest (b - 0x3800_0000_0000_0000) 0x2000_0000
digits-normal b h = rw (le-leb 0x3810_0000_0000_0000 b h)

pub digits-small : (b : ℕ) → b < 0x3810_0000_0000_0000 → 0x3680_0000_0000_0000 ≤ b
    → digits b ≡ closest (b % 0x10_0000_0000_0000 + 0x10_0000_0000_0000) (2 ^ (926 - b / 0x10_0000_0000_0000))
digits-small b h g = rw (lt-leb 0x3810_0000_0000_0000 b h, le-leb 0x3680_0000_0000_0000 b g)

pub digits-tiny : (b : ℕ) → b < 0x3810_0000_0000_0000 → b < 0x3680_0000_0000_0000 → digits b ≡ 0
digits-tiny b h g = rw (lt-leb 0x3810_0000_0000_0000 b h, lt-leb 0x3680_0000_0000_0000 b g)

units-fit : (N Q k : ℕ) → round binary32 false N (2 ^ 1074) ≡ units binary32 false Q k → T (fits binary32 (units binary32 false Q k))
units-fit N Q k e = subst (λ (x : Float). T (fits binary32 x)) e (round-fits binary32 false N (2 ^ 1074))

-- b is the pattern of d * 2 ^ k of an f64's smallest values
module _ (d k : ℕ) (d-lt : d < 2 ^ 53) (d-ge : 0 < k → 2 ^ 52 ≤ d) where
  abbrev b : ℕ
  b = k * 2 ^ 52 + d

  Goal : Type 0
  Goal = of_bits binary32 (narrow_bits b) ≡ round binary32 false (d * 2 ^ k) (2 ^ 1074)

  by_digits : (Q K : ℕ) → digits b ≡ K * 2 ^ 23 + Q → Q ≤ 2 ^ 24 → (0 < K → 2 ^ 23 ≤ Q) → round binary32 false (d * 2 ^ k) (2 ^ 1074) ≡ units binary32 false Q K → Goal
  unfolding narrow_bits Goal
  by_digits Q K e a g r =
      ap (λ (x : ℕ). of_bits binary32 (min x 0x7F80_0000)) e ∙ encode Q K a g (units-fit (d * 2 ^ k) Q K r) ∙ sym r

  at-normal : 0x3810_0000_0000_0000 ≤ b → Goal
  at-normal h =
      let w : 896 ≤ k = omega arith in
      let D : 2 ^ 52 ≤ d = d-ge (omega arith) in
      by_digits (closest d (2 ^ 29)) (k - 896)
      (digits-normal b h
      ∙ ap (λ (x : ℕ). closest x (2 ^ 29)) (lead w)
      ∙ closest-shift ((k - 896) * 2 ^ 23) d (2 ^ 29) (pow_pos 29) (even (k - 896)))
      (closest-le d (2 ^ 29) (2 ^ 24) (pow_pos 29) d-lt)
      (λ p. closest-ge d (2 ^ 29) (2 ^ 23) (pow_pos 29) D)
      (normal d k D d-lt w)
    where
      lead : 896 ≤ k → k * 2 ^ 52 + d - 0x3800_0000_0000_0000 ≡ (k - 896) * 2 ^ 23 * 2 ^ 29 + d
      lead h = omega arith

      even : (x : ℕ) → x * 2 ^ 23 % 2 ≡ 0
      even x = omega arith

  -- the exponent, from the pattern
  exponent : (K : ℕ) → b < (K + 2) * 2 ^ 52 → k ≤ K
  exponent K h = go k d-ge h
    where
      some : (k : ℕ) → 2 ^ 52 ≤ d → suc k * 2 ^ 52 + d < (K + 2) * 2 ^ 52 → suc k ≤ K
      some k g h = omega arith

      go : (k : ℕ) → (0 < k → 2 ^ 52 ≤ d) → k * 2 ^ 52 + d < (K + 2) * 2 ^ 52 → k ≤ K
      go zero g h = zero-le
      go (suc k) g h = some k (g (zero-lt-suc k)) h

  at_small : b < 0x3810_0000_0000_0000 → 0x3680_0000_0000_0000 ≤ b → Goal
  at_small h g =
      let w : k ≤ 895 = exponent 895 h in
      let D : 2 ^ 52 ≤ d = d-ge (omega arith) in
      by_digits (closest d (2 ^ (925 - k))) 0
      (digits-small b h g
      ∙ ap (λ (x : ℕ). closest x (2 ^ (926 - b / 0x10_0000_0000_0000))) (rest D)
      ∙ ap (λ (x : ℕ). closest d (2 ^ x)) (field D)
      ∙ no-exponent (closest d (2 ^ (925 - k))))
      (closest-le d (2 ^ (925 - k)) (2 ^ 24) (pow_pos (925 - k)) (lt_of_lt_of_le d-lt (le_trans (lit≤ tt) (mul-le-mul_left (2 ^ 24) (pow_mono (far w))))))
      (λ p. absurd (lt_irrefl 0 p))
      (small d k d-lt w)
    where
      rest : 2 ^ 52 ≤ d → (k * 2 ^ 52 + d) % 0x10_0000_0000_0000 + 0x10_0000_0000_0000 ≡ d
      rest h = omega arith

      field : 2 ^ 52 ≤ d → 926 - (k * 2 ^ 52 + d) / 0x10_0000_0000_0000 ≡ 925 - k
      field h = omega arith

      no-exponent : (Q : ℕ) → Q ≡ 0 * 2 ^ 23 + Q
      no-exponent Q = omega arith

      far : k ≤ 895 → 30 ≤ 925 - k
      far h = omega arith

  at-tiny : b < 0x3810_0000_0000_0000 → b < 0x3680_0000_0000_0000 → Goal
  at-tiny h g =
      let w : k ≤ 870 = exponent 870 g in
      by_digits 0 0
      (digits-tiny b h g)
      zero-le
      (λ p. absurd (lt_irrefl 0 p))
      (small d k d-lt (omega arith) ∙ ap (λ (x : ℕ). units binary32 false x 0) (closest-zero d (2 ^ (925 - k)) (lt_of_lt_of_le twice (pow_mono (wide w)))))
    where
      twice : d * 2 < 2 ^ 55
      twice = omega arith

      wide : k ≤ 870 → 55 ≤ 925 - k
      wide h = omega arith

  pub on-digits : of_bits binary32 (narrow_bits b) ≡ round binary32 false (d * 2 ^ k) (2 ^ 1074)
  unfolding Goal
  on-digits = go (leb 0x3810_0000_0000_0000 b) (leb→le 0x3810_0000_0000_0000 b) (nleb→lt 0x3810_0000_0000_0000 b)
      (leb 0x3680_0000_0000_0000 b) (leb→le 0x3680_0000_0000_0000 b) (nleb→lt 0x3680_0000_0000_0000 b)
    where
      go : (x : Bool) → (T x → 0x3810_0000_0000_0000 ≤ b) → (T (not x) → b < 0x3810_0000_0000_0000)
          → (y : Bool) → (T y → 0x3680_0000_0000_0000 ≤ b) → (T (not y) → b < 0x3680_0000_0000_0000) → Goal
      go true h n y h' n' = at-normal (h tt)
      go false h n true h' n' = at_small (n tt) (h' tt)
      go false h n false h' n' = at-tiny (n tt) (n' tt)

-- ---- each value
plain-bits : (k d : ℕ) → 0 + k * hid binary64 + d ≡ k * 2 ^ 52 + d
plain-bits k d = omega arith

pub on-finite : (m : ℕ) (e : ℤ) → T (fits binary64 (fin false m e)) → of_bits binary32 (narrow_bits (to_bits binary64 (fin false m e))) ≡ round binary32 false (m * up e) (down e)
on-finite m e h =
    let p = parts false m e h in
    ap (λ (x : ℕ). of_bits binary32 (narrow_bits x)) (p.bits ∙ plain-bits p.k p.d)
    ∙ on-digits p.d p.k p.d-lt p.d-ge
    ∙ sym (round_same binary32 false (m * up e) (down e) (p.d * 2 ^ p.k) (2 ^ 1074) (down_pos e) (pow_pos 1074) p.val)

units-neg : (f : Format) (q k : ℕ) → units f true q k ≡ neg (units f false q k)
unfolding units odd neg
units-neg f q k = go (ltb (q * 2 ^ k) (2 ^ (low f + suc (emax f)))) q
  where
    go : (b : Bool) (q : ℕ) → cond b (odd (suc (prec f)) true q k (low f)) (inf true) ≡ neg (cond b (odd (suc (prec f)) false q k (low f)) (inf false))
    go true zero = refl
    go true (suc q) = refl
    go false q = refl

pub round-neg : (f : Format) (a b : ℕ) → round f true a b ≡ neg (round f false a b)
round-neg f a b = round_is f true a b ∙ units-neg f _ _ ∙ ap neg (sym (round_is f false a b))

-- the sign's bit
bits-sign : (m : ℕ) (e : ℤ) → to_bits binary64 (fin true m e) ≡ 2 ^ 63 + to_bits binary64 (fin false m e)
unfolding to_bits
bits-sign m e = omega arith

unsign : (a b : ℕ) → a ≡ 2 ^ 63 + b → a - 2 ^ 63 ≡ b
unsign a b h = omega arith

no_sign : (a b : ℕ) → a ≡ 2 ^ 63 + b → a < 2 ^ 63 → ⊥
no_sign a b e h = omega arith

plus-law : (x : Float) → T (fits binary64 x) → T (not (is_nan x)) → to_bits binary64 x < 2 ^ 63 → of_bits binary32 (narrow_bits (to_bits binary64 x)) ≡ narrowed x
unfolding narrowed is_nan
plus-law nan h n l = absurd n
plus-law (inf true) h n l = unfold to_bits in absurd (lt_irrefl (2 ^ 63) (lt_of_le_of_lt (lit≤ tt) l))
plus-law (inf false) h n l = unfold to_bits of_bits narrow_bits in refl
plus-law (fin true m e) h n l = absurd (no_sign (to_bits binary64 (fin true m e)) (to_bits binary64 (fin false m e)) (bits-sign m e) l)
plus-law (fin false m e) h n l = on-finite m e h

minus-law : (x : Float) → T (fits binary64 x) → T (not (is_nan x)) → 2 ^ 63 ≤ to_bits binary64 x → neg (of_bits binary32 (narrow_bits (to_bits binary64 x - 2 ^ 63))) ≡ narrowed x
unfolding narrowed is_nan neg
minus-law nan h n l = absurd n
minus-law (inf true) h n l = unfold to_bits of_bits narrow_bits in refl
minus-law (inf false) h n l = unfold to_bits in absurd (lt_irrefl (2 ^ 63) (lt_of_le_of_lt l (lit< tt)))
minus-law (fin true m e) h n l =
    ap (λ (x : ℕ). neg (of_bits binary32 (narrow_bits x))) (unsign (to_bits binary64 (fin true m e)) (to_bits binary64 (fin false m e)) (bits-sign m e))
    ∙ ap neg (on-finite m e (neg-fits binary64 (fin true m e) h))
    ∙ sym (round-neg binary32 (m * up e) (down e))
minus-law (fin false m e) h n l = absurd (not-le_of_lt (bits-lt (fin false m e) h tt tt) l)

-- ---- for the functions' proofs
pub narrowed-nan : div binary32 (of_bits binary32 0) (of_bits binary32 0) ≡ narrowed nan
unfolding div of_bits narrowed
narrowed-nan = refl

pub narrow_bits-le : (b : ℕ) → narrow_bits b ≤ 0x7F80_0000
unfolding narrow_bits
narrow_bits-le b = cap (digits b)
  where
    cap : (x : ℕ) → min x 0x7F80_0000 ≤ 0x7F80_0000
    cap x = omega arith

-- the sign in front of such a pattern
pub signed-number : (s b : ℕ) → T (not (nan_bits binary32 (s * 0x8000_0000 + narrow_bits b)))
signed-number s b =
    let h = narrow_bits-le b in
    let e : (s * 0x8000_0000 + narrow_bits b) % 0x8000_0000 ≡ narrow_bits b = omega arith in
    rw (nan_bits_above binary32 (s * 0x8000_0000 + narrow_bits b), e) (le→nltb 0x7F80_0000 (narrow_bits b) h)

-- the sign is one digit
pub signed_below : (x : Float) (k : ℕ) → T (fits binary64 x) → k ≡ narrow_bits (to_bits binary64 x % 2 ^ 63) → to_bits binary64 x / 2 ^ 63 * 0x8000_0000 + k < 2 ^ 32
signed_below x k h e = go (to_bits binary64 x) k _ (to_bits-lt binary64 x h) e (narrow_bits-le (to_bits binary64 x % 2 ^ 63))
  where
    go : (b k n : ℕ) → b < 2 ^ 64 → k ≡ n → n ≤ 0x7F80_0000 → b / 2 ^ 63 * 0x8000_0000 + k < 2 ^ 32
    go b k n h e l = omega arith

fields-minus : (x t : ℕ) → of_fields binary32 true x t ≡ neg (of_fields binary32 false x t)
unfolding of_fields odd neg
fields-minus zero zero = refl
fields-minus zero (suc t) = refl
fields-minus (suc x) t = go (eqb (suc x) 255) (eqb t 0) (hid binary32 + t)
  where
    go : (a b : Bool) (q : ℕ) → cond a (cond b (inf true) nan) (odd 24 true q x 149) ≡ neg (cond a (cond b (inf false) nan) (odd 24 false q x 149))
    go true true q = refl
    go true false q = refl
    go false b zero = refl
    go false b (suc q) = refl

pub bits-minus : (n : ℕ) → n < 0x8000_0000 → of_bits binary32 (0x8000_0000 + n) ≡ neg (of_bits binary32 n)
unfolding of_bits
bits-minus n h =
    let a : leb 0x8000_0000 (0x8000_0000 + n) ≡ true = le-leb 0x8000_0000 (0x8000_0000 + n) (omega arith) in
    let b : (0x8000_0000 + n) % 0x8000_0000 ≡ n = omega arith in
    let c : (0x8000_0000 + n) % 0x80_0000 ≡ n % 0x80_0000 = omega arith in
    let d : leb 0x8000_0000 n ≡ false = lt-leb 0x8000_0000 n h in
    let e : n % 0x8000_0000 ≡ n = omega arith in
    rw (a, b, c, d, e) (fields-minus (n / 0x80_0000) (n % 0x80_0000))

-- the pattern's sign, and what is kept of the rest
pub narrow-law : (x : Float) → T (fits binary64 x) → T (not (is_nan x)) → of_bits binary32 (to_bits binary64 x / 2 ^ 63 * 0x8000_0000 + narrow_bits (to_bits binary64 x % 2 ^ 63)) ≡ narrowed x
narrow-law x h n = go (to_bits binary64 x) (plus-law x h n) (minus-law x h n) (to_bits-lt binary64 x h) (ltb (to_bits binary64 x) (2 ^ 63)) (ltb→lt (to_bits binary64 x) (2 ^ 63)) (nltb→le (to_bits binary64 x) (2 ^ 63))
  where
    go : (b : ℕ) → (b < 2 ^ 63 → of_bits binary32 (narrow_bits b) ≡ narrowed x) → (2 ^ 63 ≤ b → neg (of_bits binary32 (narrow_bits (b - 2 ^ 63))) ≡ narrowed x) → b < 2 ^ 64
        → (t : Bool) → (T t → b < 2 ^ 63) → (T (not t) → 2 ^ 63 ≤ b) → of_bits binary32 (b / 2 ^ 63 * 0x8000_0000 + narrow_bits (b % 2 ^ 63)) ≡ narrowed x
    go b p m l true u v =
        let k = u tt in
        let d : b / 2 ^ 63 ≡ 0 = omega arith in
        let r : b % 2 ^ 63 ≡ b = omega arith in
        let z : 0 * 0x8000_0000 + narrow_bits b ≡ narrow_bits b = omega arith in
        rw (d, r, z) (p k)
    go b p m l false u v =
        let k = v tt in
        let d : b / 2 ^ 63 ≡ 1 = omega arith in
        let r : b % 2 ^ 63 ≡ b - 2 ^ 63 = omega arith in
        rw (d, r) (bits-minus (narrow_bits (b - 2 ^ 63)) (lt_of_le_of_lt (narrow_bits-le (b - 2 ^ 63)) (lit< tt)) ∙ m k)

pub unit : (s : ℕ) → s ≤ 54 → 1 * 2 ^ s % 2 ^ 64 ≡ 2 ^ s
unit s h = rw one-mul (mod-eq_of_lt (pow-lt {j = 64} (lt_of_le_of_lt h (lit< {n = 64} tt))))

-- ---- an f32's bits as those of an f64
-- D * 2 ^ K of an f64's smallest values, D having 53 digits, or one more and then a 1 and zeros
abbrev Wide : ℕ → ℕ → Type 0
Wide D K = 0 + (size (D * 2 ^ K) - 53) * hid binary64 + D * 2 ^ K / 2 ^ (size (D * 2 ^ K) - 53) ≡ K * 2 ^ 52 + D

coded-wide : (D K : ℕ) → 2 ^ 52 ≤ D → D ≤ 2 ^ 53 → Wide D K
coded-wide D K a b =
    elim (eq-or-lt_of_le b) [
      | inl e ↦ subst (λ (x : ℕ). Wide x K) (sym e) highest
      | inr l ↦ mid l
    ]
  where
    kept : (z K : ℕ) → z ≡ suc (52 + K) → z - 53 ≡ K
    kept z K e = omega arith

    plus : (D K : ℕ) → 0 + K * hid binary64 + D ≡ K * 2 ^ 52 + D
    plus D K = omega arith

    mid : D < 2 ^ 53 → Wide D K
    mid l =
        ap (λ (z : ℕ). 0 + z * hid binary64 + D * 2 ^ K / 2 ^ z) (kept (size (D * 2 ^ K)) K (size_is 52 D K a l))
        ∙ ap (λ (x : ℕ). 0 + K * hid binary64 + x) (mul-div_cancel D (pow_pos K))
        ∙ plus D K

    more : (z K : ℕ) → z ≡ suc (53 + K) → z - 53 ≡ suc K
    more z K e = omega arith

    plus_one : (K : ℕ) → 0 + suc K * hid binary64 + 2 ^ 52 ≡ K * 2 ^ 52 + 2 ^ 53
    plus_one K = omega arith

    highest : Wide (2 ^ 53) K
    highest =
        ap (λ (z : ℕ). 0 + z * hid binary64 + 2 ^ 53 * 2 ^ K / 2 ^ z) (more (size (2 ^ 53 * 2 ^ K)) K (size_is 53 (2 ^ 53) K (le_refl (2 ^ 53)) (lit< tt)))
        ∙ ap (λ (x : ℕ). 0 + suc K * hid binary64 + x)
        (ap (λ (x : ℕ). x / 2 ^ suc K) (mul_assoc (2 ^ 52) 2 (2 ^ K) ∙ ap (λ (x : ℕ). 2 ^ 52 * x) (sym (pow-succ' 2 K))) ∙ mul-div_cancel (2 ^ 52) (pow_pos (suc K)))
        ∙ plus_one K

-- of a value of the f32's, n of its smallest ones
wide_of : (x : Float) (Q k : ℕ) → 2 ^ 23 ≤ Q → Q ≤ 2 ^ 24 → HasValue x false (Q * 2 ^ k) (2 ^ 149) → to_bits binary64 x ≡ ((k + 896) * 2 ^ 23 + Q) * 2 ^ 29
wide_of nan Q k a b h = absurd h
wide_of (inf s) Q k a b h = absurd h
wide_of (fin true m e) Q k a b h = absurd (true≢false h.0)
wide_of (fin false m e) Q k a b h =
    to_bits_is binary64 false m e (Q * 2 ^ 29 * 2 ^ (k + 896))
    (ap (λ (x : ℕ). x / down e) (wider (m * up e) (Q * 2 ^ k) (down e) h.1 ∙ ap (λ (x : ℕ). x * down e) (apart Q k)) ∙ mul-div_cancel (Q * 2 ^ 29 * 2 ^ (k + 896)) (down_pos e))
    ∙ coded-wide (Q * 2 ^ 29) (k + 896) (least Q a) (most Q b)
    ∙ fields Q k
  where
    wider : (a n c : ℕ) → a * 2 ^ 149 ≡ n * c → a * 2 ^ 1074 ≡ n * 2 ^ 925 * c
    wider a n c h =
        ap (λ (x : ℕ). a * x) (pow-add 2 149 925)
        ∙ sym (mul_assoc a (2 ^ 149) (2 ^ 925))
        ∙ ap (λ (x : ℕ). x * 2 ^ 925) h
        ∙ mul_assoc n c (2 ^ 925)
        ∙ ap (λ (x : ℕ). n * x) (mul_comm c (2 ^ 925))
        ∙ sym (mul_assoc n (2 ^ 925) c)

    sums : (k : ℕ) → k + 925 ≡ 29 + (k + 896)
    sums k = omega arith

    apart : (Q k : ℕ) → Q * 2 ^ k * 2 ^ 925 ≡ Q * 2 ^ 29 * 2 ^ (k + 896)
    apart Q k =
        mul_assoc Q (2 ^ k) (2 ^ 925)
        ∙ ap (λ (x : ℕ). Q * x) (sym (pow-add 2 k 925) ∙ ap (λ (x : ℕ). 2 ^ x) (sums k) ∙ pow-add 2 29 (k + 896))
        ∙ sym (mul_assoc Q (2 ^ 29) (2 ^ (k + 896)))

    least : (Q : ℕ) → 2 ^ 23 ≤ Q → 2 ^ 52 ≤ Q * 2 ^ 29
    least Q h = omega arith

    most : (Q : ℕ) → Q ≤ 2 ^ 24 → Q * 2 ^ 29 ≤ 2 ^ 53
    most Q h = omega arith

    fields : (Q k : ℕ) → (k + 896) * 2 ^ 52 + Q * 2 ^ 29 ≡ ((k + 896) * 2 ^ 23 + Q) * 2 ^ 29
    fields Q k = omega arith

-- what a number with a sign of its own and its opposite have for bits
bits-neg : (x : Float) (n c : ℕ) → HasValue x false n c → to_bits binary64 (neg x) ≡ 2 ^ 63 + to_bits binary64 x
unfolding neg
bits-neg nan n c h = absurd h
bits-neg (inf s) n c h = absurd h
bits-neg (fin true m e) n c h = absurd (true≢false h.0)
bits-neg (fin false m e) n c h = bits-sign m e

-- rounded to an f32, and that with a minus sign
record Rounds (x : Float) (b : ℕ) : Type 0 where
  plus : to_bits binary64 x ≡ wide_bits b
  minus : to_bits binary64 (neg x) ≡ wide_bits (2 ^ 63 + b)

rounds : (d k : ℕ) → d < 2 ^ 53 → (0 < k → 2 ^ 52 ≤ d) → 0x3810_0000_0000_0000 ≤ k * 2 ^ 52 + d → k * 2 ^ 52 + d < 0x47E0_0000_0000_0000
    → Rounds (round binary32 false (d * 2 ^ k) (2 ^ 1074)) (k * 2 ^ 52 + d)
rounds d k l g h t =
    let w : 896 ≤ k = omega arith in
    let D : 2 ^ 52 ≤ d = g (omega arith) in
    let Q = closest d (2 ^ 29) in
    let most = closest-le d (2 ^ 29) (2 ^ 24) (pow_pos 29) l in
    let least = closest-ge d (2 ^ 29) (2 ^ 23) (pow_pos 29) D in
    let v = units_val binary32 false Q (k - 896) (under-limit Q (k - 896) most (λ p. least) (limit Q k most D t)) in
    let is = normal d k D l w in
    let e : to_bits binary64 (units binary32 false Q (k - 896)) ≡ (k * 2 ^ 23 + Q) * 2 ^ 29 = wide_of _ Q (k - 896) least most v ∙ ap (λ (x : ℕ). (x * 2 ^ 23 + Q) * 2 ^ 29) (back k w) in
    record {
      plus = ap (λ (x : Float). to_bits binary64 x) is ∙ e ∙ ap (λ (x : ℕ). x * 2 ^ 29) (sym (shifted k));
      minus = ap (λ (x : Float). to_bits binary64 (neg x)) is
          ∙ bits-neg _ _ _ v
          ∙ ap (λ (x : ℕ). 2 ^ 63 + x) e
          ∙ above (k * 2 ^ 23) Q
          ∙ ap (λ (x : ℕ). x * 2 ^ 29) (sym (shifted-more k));
    }
  where
    limit : (Q k : ℕ) → Q ≤ 2 ^ 24 → 2 ^ 52 ≤ d → k * 2 ^ 52 + d < 0x47E0_0000_0000_0000 → (k - 896) * 2 ^ 23 + Q < 0x7F80_0000
    limit Q k a b c = omega arith

    back : (k : ℕ) → 896 ≤ k → k - 896 + 896 ≡ k
    back k h = omega arith

    lead : (k : ℕ) → k * 2 ^ 52 + d ≡ k * 2 ^ 23 * 2 ^ 29 + d
    lead k = omega arith

    even : (x : ℕ) → x * 2 ^ 23 % 2 ≡ 0
    even x = omega arith

    shifted : (k : ℕ) → closest (k * 2 ^ 52 + d) (2 ^ 29) ≡ k * 2 ^ 23 + closest d (2 ^ 29)
    shifted k = ap (λ (x : ℕ). closest x (2 ^ 29)) (lead k) ∙ closest-shift (k * 2 ^ 23) d (2 ^ 29) (pow_pos 29) (even k)

    lead-more : (k : ℕ) → 2 ^ 63 + (k * 2 ^ 52 + d) ≡ (2 ^ 34 + k * 2 ^ 23) * 2 ^ 29 + d
    lead-more k = omega arith

    even-more : (x : ℕ) → (2 ^ 34 + x * 2 ^ 23) % 2 ≡ 0
    even-more x = omega arith

    shifted-more : (k : ℕ) → closest (2 ^ 63 + (k * 2 ^ 52 + d)) (2 ^ 29) ≡ 2 ^ 34 + k * 2 ^ 23 + closest d (2 ^ 29)
    shifted-more k = ap (λ (x : ℕ). closest x (2 ^ 29)) (lead-more k) ∙ closest-shift (2 ^ 34 + k * 2 ^ 23) d (2 ^ 29) (pow_pos 29) (even-more k)

    above : (a b : ℕ) → 2 ^ 63 + (a + b) * 2 ^ 29 ≡ (2 ^ 34 + a + b) * 2 ^ 29
    above a b = omega arith

-- what `plain` says of the bits
record Between (n : ℕ) : Type 0 where
  from : 0x3810_0000_0000_0000 ≤ n % 2 ^ 63
  below : n % 2 ^ 63 < 0x47E0_0000_0000_0000

plain-bits-of : (x : Float) → plain x ≡ true → Between (to_bits binary64 x)
unfolding plain
plain-bits-of x h =
    let n = to_bits binary64 x % 0x8000_0000_0000_0000 in
    let a = leb 0x3810_0000_0000_0000 n in
    let b = ltb n 0x47E0_0000_0000_0000 in
    let t = both_right (not (is_nan x)) (a && b) (subst T (sym h) tt) in
    record { from = leb→le 0x3810_0000_0000_0000 n (both_left a b t); below = ltb→lt n 0x47E0_0000_0000_0000 (both_right a b t) }

pub plain-number : (x : Float) → plain x ≡ true → T (not (is_nan x))
unfolding plain
plain-number x h =
    let n = to_bits binary64 x % 0x8000_0000_0000_0000 in
    both_left (not (is_nan x)) (leb 0x3810_0000_0000_0000 n && ltb n 0x47E0_0000_0000_0000) (subst T (sym h) tt)

finite-rounds : (m : ℕ) (e : ℤ) → T (fits binary64 (fin false m e)) → Between (to_bits binary64 (fin false m e))
    → Rounds (round binary32 false (m * up e) (down e)) (to_bits binary64 (fin false m e))
unfolding is_nan
finite-rounds m e h r =
    let p = parts false m e h in
    let i = p.bits ∙ plain-bits p.k p.d in
    let s = subst Between i r in
    let l : p.k * 2 ^ 52 + p.d < 2 ^ 63 = subst (λ (x : ℕ). x < 2 ^ 63) i (bits-lt (fin false m e) h tt tt) in
    subst (λ (x : ℕ). Rounds (round binary32 false (m * up e) (down e)) x) (sym i)
    (subst (λ (x : Float). Rounds x (p.k * 2 ^ 52 + p.d))
    (sym (round_same binary32 false (m * up e) (down e) (p.d * 2 ^ p.k) (2 ^ 1074) (down_pos e) (pow_pos 1074) p.val))
    (rounds p.d p.k p.d-lt p.d-ge (low_end _ l s.from) (high_end _ l s.below)))
  where
    low_end : (n : ℕ) → n < 2 ^ 63 → 0x3810_0000_0000_0000 ≤ n % 2 ^ 63 → 0x3810_0000_0000_0000 ≤ n
    low_end n l h = omega arith

    high_end : (n : ℕ) → n < 2 ^ 63 → n % 2 ^ 63 < 0x47E0_0000_0000_0000 → n < 0x47E0_0000_0000_0000
    high_end n l h = omega arith

-- the f32 nearest to a plain number has these bits as an f64
wide-bits : (x : Float) → T (fits binary64 x) → plain x ≡ true → to_bits binary64 (narrowed x) ≡ wide_bits (to_bits binary64 x)
unfolding narrowed is_nan neg
wide-bits nan h p = absurd (plain-number nan p)
wide-bits (inf s) h p = absurd (no_end (to_bits binary64 (inf s)) (ends s) (plain-bits-of (inf s) p).below)
  where
    ends : (s : Bool) → to_bits binary64 (inf s) % 2 ^ 63 ≡ 0x7FF0_0000_0000_0000
    ends true = unfold to_bits in refl
    ends false = unfold to_bits in refl

    no_end : (n : ℕ) → n % 2 ^ 63 ≡ 0x7FF0_0000_0000_0000 → n % 2 ^ 63 < 0x47E0_0000_0000_0000 → ⊥
    no_end n e h = omega arith
wide-bits (fin false m e) h p = (finite-rounds m e h (plain-bits-of (fin false m e) p)).plus
wide-bits (fin true m e) h p =
    let f = neg-fits binary64 (fin true m e) h in
    let b = plain-bits-of (fin true m e) p in
    let s = bits-sign m e in
    let r : Between (to_bits binary64 (fin false m e)) = record {
      from = subst (λ (x : ℕ). 0x3810_0000_0000_0000 ≤ x) (off _ _ s) b.from;
      below = subst (λ (x : ℕ). x < 0x47E0_0000_0000_0000) (off _ _ s) b.below;
    } in
    ap (λ (x : Float). to_bits binary64 x) (round-neg binary32 (m * up e) (down e)) ∙ (finite-rounds m e f r).minus ∙ ap wide_bits (sym s)
  where
    off : (a b : ℕ) → a ≡ 2 ^ 63 + b → a % 2 ^ 63 ≡ b % 2 ^ 63
    off a b h = omega arith

pub narrowed-fits : (x : Float) → T (fits binary32 (narrowed x))
unfolding narrowed
narrowed-fits nan = nan-fits binary32
narrowed-fits (inf s) = inf-fits binary32 s
narrowed-fits (fin s m e) = round-fits binary32 s (m * up e) (down e)

pub wide-law : (x : Float) → T (fits binary64 x) → plain x ≡ true → of_bits binary64 (wide_bits (to_bits binary64 x)) ≡ narrowed x
wide-law x h p =
    ap (λ (n : ℕ). of_bits binary64 n) (sym (wide-bits x h p)) ∙ of_bits-to_bits binary64 (narrowed x) (fits_widens (narrowed x) (narrowed-fits x))

-- ---- for `narrow_plain`
-- its bits, rounded as the code does it
abbrev cut : ℕ → ℕ
cut b = (b + 0xFFF_FFFF + b / 0x2000_0000 % 2) / 0x2000_0000 * 0x2000_0000

pub plain-room : (x : Float) → T (fits binary64 x) → plain x ≡ true → to_bits binary64 x + 0xFFF_FFFF + to_bits binary64 x / 0x2000_0000 % 2 < 2 ^ 64
plain-room x h p = go (to_bits binary64 x) (to_bits-lt binary64 x h) (plain-bits-of x p).below
  where
    go : (b : ℕ) → b < 2 ^ 64 → b % 2 ^ 63 < 0x47E0_0000_0000_0000 → b + 0xFFF_FFFF + b / 0x2000_0000 % 2 < 2 ^ 64
    go b l h = omega arith

pub cut-number : (x : Float) → T (fits binary64 x) → plain x ≡ true → T (not (nan_bits binary64 (cut (to_bits binary64 x))))
cut-number x h p =
    let b = to_bits binary64 x in
    rw (nan_bits_above binary64 (cut b)) (le→nltb 0x7FF0_0000_0000_0000 _ (go b (cut b) (to_bits-lt binary64 x h) (plain-bits-of x p) (low_end b) (high_end b)))
  where
    low_end : (b : ℕ) → b ≤ cut b + 0x2000_0000
    low_end b = omega arith

    high_end : (b : ℕ) → cut b ≤ b + 0x1000_0000
    high_end b = omega arith

    go : (b c : ℕ) → b < 2 ^ 64 → Between b → b ≤ c + 0x2000_0000 → c ≤ b + 0x1000_0000 → c % 2 ^ 63 ≤ 0x7FF0_0000_0000_0000
    go b c l r m n = omega (arith, r.from, r.below)

pub cut-law : (x : Float) → T (fits binary64 x) → plain x ≡ true → of_bits binary64 (cut (to_bits binary64 x)) ≡ narrowed x
cut-law x h p = ap (λ (n : ℕ). of_bits binary64 (n * 0x2000_0000)) (rounded (to_bits binary64 x)) ∙ wide-law x h p

-- the cast loses nothing
pub cut-casts : (x : Float) → T (fits binary64 x) → plain x ≡ true → T (fits binary32 (of_bits binary64 (cut (to_bits binary64 x))) && not (is_nan (of_bits binary64 (cut (to_bits binary64 x)))))
cut-casts x h p =
    let v = of_bits binary64 (cut (to_bits binary64 x)) in
    and_i (fits binary32 v) (not (is_nan v))
    (subst (λ (v : Float). T (fits binary32 v)) (sym (cut-law x h p)) (narrowed-fits x))
    (subst (λ (b : Bool). T (not b)) (nan_bits_is binary64 (cut (to_bits binary64 x))) (cut-number x h p))
