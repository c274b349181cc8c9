-- A test that antt computes over all cases, and what it says of each: the numbers below a bound, and the lists of so many bits.
-- Assumes nothing.
use Rattle.std.proofs.Common.{◌≡◌, ℕ, zero, suc, ◌<◌, Bool, true, false, ◌&&◌, T, List, [], ◌∷◌, length, sym, refl, subst, ⊎_elim, le_of_suc-le-suc, not-suc-le-zero, eq-or-lt_of_le, arith}

pub both_left : (a b : Bool) → T (a && b) → T a
both_left true b t = tt
both_left false b t = t

pub both_right : (a b : Bool) → T (a && b) → T b
both_right true b t = t
both_right false b t = absurd t

-- at each number below n
abbrev pub all_below : ℕ → (ℕ → Bool) → Bool
all_below zero f = true
all_below (suc n) f = f n && all_below n f

pub at-number : (n : ℕ) (f : ℕ → Bool) → T (all_below n f) → (k : ℕ) → k < n → T (f k)
at-number zero f t k h = absurd (not-suc-le-zero h)
at-number (suc n) f t k h =
    ⊎_elim (λ e. subst (λ (m : ℕ). T (f m)) (sym e) (both_left (f n) (all_below n f) t))
    (λ g. at-number n f (both_right (f n) (all_below n f) t) k g)
    (eq-or-lt_of_le (le_of_suc-le-suc h))

-- at each list of n bits
abbrev pub all_bits : ℕ → (List Bool → Bool) → Bool
all_bits zero f = f []
all_bits (suc n) f = all_bits n (λ l. f (true ∷ l)) && all_bits n (λ l. f (false ∷ l))

pub at_bits : (n : ℕ) (f : List Bool → Bool) → T (all_bits n f) → (l : List Bool) → length l ≡ n → T (f l)
at_bits zero f t [] e = t
at_bits zero f t (x ∷ l) e = absurd (omega arith)
at_bits (suc n) f t [] e = absurd (omega arith)
at_bits (suc n) f t (true ∷ l) e =
    at_bits n (λ l. f (true ∷ l)) (both_left (all_bits n (λ l. f (true ∷ l))) (all_bits n (λ l. f (false ∷ l))) t) l (omega arith)
at_bits (suc n) f t (false ∷ l) e =
    at_bits n (λ l. f (false ∷ l)) (both_right (all_bits n (λ l. f (true ∷ l))) (all_bits n (λ l. f (false ∷ l))) t) l (omega arith)

-- two lists of bits are the same
abbrev pub same_bit : Bool → Bool → Bool
same_bit true b = b
same_bit false true = false
same_bit false false = true

abbrev pub same_bits : List Bool → List Bool → Bool
same_bits [] [] = true
same_bits [] (y ∷ ys) = false
same_bits (x ∷ xs) [] = false
same_bits (x ∷ xs) (y ∷ ys) = same_bit x y && same_bits xs ys

same_bit_lem : (a b : Bool) → T (same_bit a b) → a ≡ b
same_bit_lem true true t = refl
same_bit_lem true false t = absurd t
same_bit_lem false true t = absurd t
same_bit_lem false false t = refl

pub same_bits_lem : (l m : List Bool) → T (same_bits l m) → l ≡ m
same_bits_lem [] [] t = refl
same_bits_lem [] (y ∷ ys) t = absurd t
same_bits_lem (x ∷ xs) [] t = absurd t
same_bits_lem (x ∷ xs) (y ∷ ys) t =
    let p : x ≡ y = same_bit_lem x y (both_left (same_bit x y) (same_bits xs ys) t) in
    let q : xs ≡ ys = same_bits_lem xs ys (both_right (same_bit x y) (same_bits xs ys) t) in
    cc
