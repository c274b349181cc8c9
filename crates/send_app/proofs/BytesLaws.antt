-- Samples' bytes at the front of a list, one sample after the other. Assumes nothing.
use Rattle.std.proofs.Common.{◌≡◌, ℕ, suc, ◌+◌, ◌*◌, ◌/◌, ◌%◌, ◌<◌, ◌≤◌, List, [], ◌∷◌, ◌++◌, length, get_or, take, set, ℤ, sym, refl, ap, ◌∙◌, subst, append_assoc, append-nil, mul-zero, mul-one, mul-add, arith, length-set, take-suc, take-suc-set}
use lib.Seq.{take-length}
use lib.Ieee.{Float, binary32, to_bits}
use Rattle.wav.specs.Recording.{two, four}
use Rattle.send_app.specs.Header.{width_of, with_word}
use Rattle.send_app.specs.Bytes.{pcm16_of, bytes_of, in_order, block_bytes, sixteen_of, whole_bytes, table_bytes, with_half, placed}
use Rattle.send_app.specs.declared.words.Kind.{Kind}
use Rattle.send_app.specs.declared.words.Kind.TheVariants as kind

-- ---- stores
step : (xs : List ℕ) (i n v : ℕ) → n ≡ suc i → i < length xs → take n (set xs i v) ≡ take i xs ++ (v ∷ [])
step xs i n v e h = rw e (take-suc-set xs i v h)

put_two : (xs : List ℕ) (at a b : ℕ) → at + 2 ≤ length xs → take (at + 2) (set (set xs at a) (at + 1) b) ≡ take at xs ++ (a ∷ b ∷ [])
put_two xs at a b h =
    step (set xs at a) (at + 1) (at + 2) b (omega arith) (omega (arith, length-set xs at a))
    ∙ ap (λ (l : List ℕ). l ++ (b ∷ [])) (step xs at (at + 1) a (omega arith) (omega arith))
    ∙ append_assoc (take at xs) (a ∷ []) (b ∷ [])

put_four : (xs : List ℕ) (at a b c d : ℕ) → at + 4 ≤ length xs
    → take (at + 4) (set (set (set (set xs at a) (at + 1) b) (at + 2) c) (at + 3) d) ≡ take at xs ++ (a ∷ b ∷ c ∷ d ∷ [])
put_four xs at a b c d h =
    let ys = set (set xs at a) (at + 1) b in
    let l : length ys ≡ length xs = length-set (set xs at a) (at + 1) b ∙ length-set xs at a in
    step (set ys (at + 2) c) (at + 3) (at + 4) d (omega arith) (omega (arith, length-set ys (at + 2) c, l))
    ∙ ap (λ (l : List ℕ). l ++ (d ∷ [])) (step ys (at + 2) (at + 3) c (omega arith) (omega (arith, l)) ∙ ap (λ (l : List ℕ). l ++ (c ∷ [])) (put_two xs at a b (omega arith)))
    ∙ ap (λ (l : List ℕ). l ++ (d ∷ [])) (append_assoc (take at xs) (a ∷ b ∷ []) (c ∷ []))
    ∙ append_assoc (take at xs) (a ∷ b ∷ c ∷ []) (d ∷ [])

pub half_length : (xs : List ℕ) (at n : ℕ) → length (with_half xs at n) ≡ length xs
half_length xs at n = length-set (set xs at (n % 256)) (at + 1) (n / 256) ∙ length-set xs at (n % 256)

-- ---- a sample
pub placed-length : (k : Kind) (xs : List ℕ) (at : ℕ) (x : Float) → length (placed k xs at x) ≡ length xs
placed-length kind.Float xs at x =
    let n = to_bits binary32 x in
    let one = set xs at (n % 256) in
    let two = set one (at + 1) (n / 256 % 256) in
    let three = set two (at + 2) (n / 65536 % 256) in
    length-set three (at + 3) (n / 16777216) ∙ length-set two (at + 2) (n / 65536 % 256) ∙ length-set one (at + 1) (n / 256 % 256) ∙ length-set xs at (n % 256)
placed-length kind.Pcm16 xs at x = half_length xs at (pcm16_of x)

placed-front : (k : Kind) (xs : List ℕ) (at : ℕ) (x : Float) → at + width_of k ≤ length xs → take (at + width_of k) (placed k xs at x) ≡ take at xs ++ bytes_of k x
unfolding bytes_of two four
placed-front kind.Float xs at x h = put_four xs at _ _ _ _ h
placed-front kind.Pcm16 xs at x h = put_two xs at _ _ h

-- the kind decides
pub placed_at : {k q : Kind} (xs : List ℕ) (at : ℕ) (x : Float) {r : List ℕ} → k ≡ q → r ≡ placed q xs at x → r ≡ placed k xs at x
placed_at xs at x e h = rw e h

pub wide_at : {k q : Kind} (at n : ℕ) → k ≡ q → at + width_of k ≤ n → at + width_of q ≤ n
wide_at at n e h = subst (λ (k : Kind). at + width_of k ≤ n) e h

pub word-placed : (xs : List ℕ) (at : ℕ) (x : Float) {n : ℕ} {r : List ℕ} → r ≡ with_word xs at n → n ≡ to_bits binary32 x → r ≡ placed kind.Float xs at x
word-placed xs at x e f = e ∙ ap (λ (n : ℕ). with_word xs at n) f

pub half-placed : (xs : List ℕ) (at : ℕ) (x : Float) {n : ℕ} {r : List ℕ} → r ≡ with_half xs at n → n ≡ pcm16_of x → r ≡ placed kind.Pcm16 xs at x
half-placed xs at x e f = e ∙ ap (λ (n : ℕ). with_half xs at n) f

pub room : (k : Kind) (i n : ℕ) → i < n → n ≤ 1024 → width_of k * i + width_of k ≤ 4096
room kind.Float i n h l = omega arith
room kind.Pcm16 i n h l = omega arith

pub whole_room : (k : Kind) (n : ℕ) → n ≤ 1024 → width_of k * n ≤ 4096
whole_room kind.Float n l = omega arith
whole_room kind.Pcm16 n l = omega arith

-- ---- a block of samples of any type
module _ {A : Type 0} (f : A → List ℕ) where
  in-order-append : (xs ys : List A) → in_order f (xs ++ ys) ≡ in_order f xs ++ in_order f ys
  unfolding in_order
  in-order-append [] ys = refl
  in-order-append (x ∷ xs) ys = rw (in-order-append xs ys) (sym (append_assoc (f x) (in_order f xs) (in_order f ys)))

  in-order-one : (x : A) → in_order f (x ∷ []) ≡ f x
  unfolding in_order
  in-order-one x = append-nil (f x)

  -- one sample more
  one_more : (xs : List A) (i : ℕ) (d : A) (front : List ℕ) → i < length xs → front ≡ in_order f (take i xs) → front ++ f (get_or xs i d) ≡ in_order f (take (i + 1) xs)
  one_more xs i d front h e =
      let s : i + 1 ≡ suc i = omega arith in
      ap (λ (z : List ℕ). z ++ f (get_or xs i d)) e
      ∙ sym (ap (in_order f) (ap (λ (z : ℕ). take z xs) s ∙ take-suc xs i d h) ∙ in-order-append (take i xs) (get_or xs i d ∷ []) ∙ ap (λ (z : List ℕ). in_order f (take i xs) ++ z) (in-order-one (get_or xs i d)))

  pub packs-none : (w : ℕ) (bytes : List ℕ) (xs : List A) → take (w * 0) bytes ≡ in_order f (take 0 xs)
  unfolding in_order
  packs-none w bytes xs = rw (mul-zero w) refl

  pub packs-all : (w : ℕ) (bytes : List ℕ) (xs : List A) (i : ℕ) → i ≤ length xs → length xs ≤ i → take (w * i) bytes ≡ in_order f (take i xs) → take (w * length xs) bytes ≡ in_order f xs
  packs-all w bytes xs i a b e =
      let s : i ≡ length xs = omega arith in
      subst (λ (j : ℕ). take (w * j) bytes ≡ in_order f (take j xs)) s e ∙ ap (in_order f) (take-length xs)

-- ---- a block
pub packs-more : (k : Kind) (bytes : List ℕ) (at : ℕ) (xs : List Float) (i : ℕ) (d : Float) → i < length xs → length xs ≤ 1024 → length bytes ≡ 4096 → at ≡ width_of k * i
    → take (width_of k * i) bytes ≡ block_bytes k (take i xs) → take (width_of k * (i + 1)) (placed k bytes at (get_or xs i d)) ≡ block_bytes k (take (i + 1) xs)
packs-more k bytes at xs i d h l m a e =
    let w = width_of k in
    let n : w * (i + 1) ≡ w * i + w = mul-add w i 1 ∙ ap (λ (z : ℕ). w * i + z) (mul-one w) in
    rw (a, n) (placed-front k bytes (w * i) (get_or xs i d) (omega (arith, m, room k i (length xs) h l)) ∙ one_more (bytes_of k) xs i d (take (w * i) bytes) h e)

-- ---- a block of the table's samples
pub table_more : (bytes : List ℕ) (xs : List ℤ) (i : ℕ) (d : ℤ) → i < length xs → length xs ≤ 1024 → length bytes ≡ 4096 → take (2 * i) bytes ≡ table_bytes (take i xs)
    → take (2 * (i + 1)) (with_half bytes (2 * i) (sixteen_of (get_or xs i d))) ≡ table_bytes (take (i + 1) xs)
unfolding two
table_more bytes xs i d h l m e =
    let n : 2 * (i + 1) ≡ 2 * i + 2 = omega arith in
    rw n (put_two bytes (2 * i) _ _ (omega arith) ∙ one_more whole_bytes xs i d (take (2 * i) bytes) h e)
