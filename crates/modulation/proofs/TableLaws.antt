-- What the request says of the table: one computed test over the code's table, and the rules that it gives at each entry. Assumes nothing.
use Prim.Native.Nat.{ℕ, zero, suc, ◌+◌, ◌*◌, ◌-◌, ◌%◌, ◌≤◌, ◌<◌}
use mathlib.Core.Path.{◌≡◌, refl, sym, ap, ◌∙◌, subst}
use mathlib.Core.Bool.{Bool, true, false, ◌&&◌}
use mathlib.Core.List.{List, [], ◌∷◌}
use native.Mathlib.Omega.{arith}
use native.Mathlib.Nat.{not-suc-le-zero}
use mir.Syntax.{w32}
use mir.Val.{SFits, to_z, of_z}
use mir.ValLaws.{to_z-of_z}
use lib.Dec.{T, ltb, leb, eqb, leb→le, eqb→eq}
use lib.ListN.{get_or, drop}
use lib.Seq.{get_or-drop}
use lib.IntN.{ℤ, pos, negsuc, neg_ℤ, neg_ℤ-neg_ℤ}
use lib.Ieee.{Float, le, lt, add, sub, mul, div, of_int, of_bits}
use borrow.Author.Tests.{ltb-true, ltb-false}
use Rattle.numeric.specs.F64.{◌⊖◌, ◌≤ᶠ◌, whole, magnitude}
use Rattle.std.specs.Prelude.{if◌then◌else◌}
use Rattle.numeric.specs.Rounding.{round_usize}
use Rattle.numeric.specs.Sine.{sine_of, reduced, folded, horner, series, half_turn}
use Rattle.numeric.proofs.Tested.{all_below, at-number, both_left, both_right}
use Rattle.modulation.specs.Table.{places, level_of, height_of, entry_of, size, squares, at_most, margin, TableRules}
use Rattle.modulation.proofs.TableList.{table}

abbrev at : ℕ → ℤ
at k = get_or table k (pos 0)

-- ---- the test
abbrev same : ℤ → ℤ → Bool
same (pos a) (pos b) = eqb a b
same (pos a) (negsuc b) = false
same (negsuc a) (pos b) = false
same (negsuc a) (negsuc b) = eqb a b

same-is : (a b : ℤ) → T (same a b) → a ≡ b
same-is (pos a) (pos b) t = ap pos (eqb→eq a b t)
same-is (pos a) (negsuc b) t = absurd t
same-is (negsuc a) (pos b) t = absurd t
same-is (negsuc a) (negsuc b) t = ap negsuc (eqb→eq a b t)

-- the entry e is the nearest whole number to v, with a margin
abbrev nearest : Float → ℤ → Bool
nearest v e = same e (pos (round_usize v)) && magnitude (v ⊖ whole (size e)) ≤ᶠ margin

abbrev circled : ℕ → Bool
circled s = leb s (32767 * 32767 + 46342) && leb (32767 * 32767) (s + 46342)

-- two lists side by side, so that no place is looked up: at each of their first n places
abbrev all_pairs : ℕ → (ℤ → ℤ → Bool) → List ℤ → List ℤ → Bool
all_pairs zero f xs ys = true
all_pairs (suc n) f [] ys = false
all_pairs (suc n) f (x ∷ xs) [] = false
all_pairs (suc n) f (x ∷ xs) (y ∷ ys) = f x y && all_pairs n f xs ys

at_pair : (n : ℕ) (f : ℤ → ℤ → Bool) (xs ys : List ℤ) → T (all_pairs n f xs ys) → (k : ℕ) → k < n → T (f (get_or xs k (pos 0)) (get_or ys k (pos 0)))
at_pair zero f xs ys t k h = absurd (not-suc-le-zero h)
at_pair (suc n) f [] ys t k h = absurd t
at_pair (suc n) f (x ∷ xs) [] t k h = absurd t
at_pair (suc n) f (x ∷ xs) (y ∷ ys) t zero h = both_left (f x y) (all_pairs n f xs ys) t
at_pair (suc n) f (x ∷ xs) (y ∷ ys) t (suc k) h = at_pair n f xs ys (both_right (f x y) (all_pairs n f xs ys) t) k (omega arith)

-- of a place of the first quarter; of an entry and the one a quarter further on; of an entry and the one half a turn further on
abbrev quarter : ℕ → Bool
quarter k = nearest (level_of k) (at k) && same (at (800 - k)) (at k)

abbrev sized : ℤ → ℤ → Bool
sized a b = circled (squares a b) && leb (size a) 32767

abbrev opposed : ℤ → ℤ → Bool
opposed a b = same b (neg_ℤ a)

abbrev moving : Bool
moving = all_pairs 400 at_most table (drop 1 table) && all_pairs 800 opposed table (drop 800 table)

abbrev others : Bool
others = all_pairs 401 sized table (drop 400 table) && moving

passed : T (all_below 401 quarter && others)
unfolding table level_of sine_of reduced folded horner series half_turn magnitude round_usize le lt add sub mul div of_int of_bits
passed = tt

-- ---- what it says of each place
abbrev margined : ℕ → Bool
margined k = magnitude (level_of k ⊖ whole (size (at k))) ≤ᶠ margin

module _ (k : ℕ) (h : k ≤ 400) where
  passes : T (quarter k)
  passes = at-number 401 quarter (both_left (all_below 401 quarter) others passed) k (omega arith)

  near : T (nearest (level_of k) (at k))
  near = both_left (nearest (level_of k) (at k)) (same (at (800 - k)) (at k)) passes

  height : at k ≡ pos (height_of k)
  unfolding height_of
  height = same-is (at k) (pos (round_usize (level_of k))) (both_left (same (at k) (pos (round_usize (level_of k)))) (margined k) near)

  tie-free : T (margined k)
  tie-free = both_right (same (at k) (pos (round_usize (level_of k)))) (margined k) near

  mirrored : at (800 - k) ≡ at k
  mirrored = same-is (at (800 - k)) (at k) (both_right (nearest (level_of k) (at k)) (same (at (800 - k)) (at k)) passes)

-- a test of each of the first n entries and the one j places further on
ahead : (j k : ℕ) → get_or (drop j table) k (pos 0) ≡ at (k + j)
ahead j k = let e : j + k ≡ k + j = omega arith in get_or-drop j table k (pos 0) ∙ ap at e

both_at : (f : ℤ → ℤ → Bool) (n j : ℕ) → T (all_pairs n f table (drop j table)) → (k : ℕ) → k < n → T (f (at k) (at (k + j)))
both_at f n j t k h = subst (λ (z : ℤ). T (f (at k) z)) (ahead j k) (at_pair n f table (drop j table) t k h)

sizes : (k : ℕ) → k ≤ 400 → T (sized (at k) (at (k + 400)))
sizes k h = both_at sized 401 400 (both_left (all_pairs 401 sized table (drop 400 table)) moving (both_right (all_below 401 quarter) others passed)) k (omega arith)

moves : T moving
moves = both_right (all_pairs 401 sized table (drop 400 table)) moving (both_right (all_below 401 quarter) others passed)

rise : (k : ℕ) → k < 400 → T (at_most (at k) (at (k + 1)))
rise k h = both_at at_most 400 1 (both_left (all_pairs 400 at_most table (drop 1 table)) (all_pairs 800 opposed table (drop 800 table)) moves) k h

negated : (k : ℕ) → k < 800 → at (k + 800) ≡ neg_ℤ (at k)
negated k h =
    same-is (at (k + 800)) (neg_ℤ (at k))
    (both_at opposed 800 800 (both_right (all_pairs 400 at_most table (drop 1 table)) (all_pairs 800 opposed table (drop 800 table)) moves) k h)

-- ---- the code's table is the definition's, quarter by quarter
second : (k : ℕ) → 400 ≤ k → k ≤ 800 → at k ≡ pos (height_of (800 - k))
second k l h =
    let e : 800 - (800 - k) ≡ k = omega arith in
    rw e at (mirrored (800 - k) (omega arith) ∙ height (800 - k) (omega arith))

below : (k : ℕ) → 800 ≤ k → k < 1600 → at k ≡ neg_ℤ (at (k - 800))
below k l h =
    let e : k - 800 + 800 ≡ k = omega arith in
    rw e at (negated (k - 800) (omega arith))

pub table_is : (k : ℕ) → k < places → at k ≡ entry_of k
unfolding entry_of
table_is k h = go (ltb k 400) refl (ltb k 800) refl (ltb k 1200) refl
  where
    go : (a : Bool) → ltb k 400 ≡ a → (b : Bool) → ltb k 800 ≡ b → (c : Bool) → ltb k 1200 ≡ c
        → at k ≡ (if a then pos (height_of k) else if b then pos (height_of (800 - k)) else if c then neg_ℤ (pos (height_of (k - 800))) else neg_ℤ (pos (height_of (1600 - k))))
    go true e b f c g = let l = ltb-true k 400 e in height k (omega arith)
    go false e true f c g = let l = ltb-false k 400 e in let m = ltb-true k 800 f in second k l (omega arith)
    go false e false f true g =
        let l = ltb-false k 800 f in
        let m = ltb-true k 1200 g in
        below k l h ∙ ap neg_ℤ (height (k - 800) (omega arith))
    go false e false f false g =
        let l = ltb-false k 1200 g in
        let i : 800 - (k - 800) ≡ 1600 - k = omega arith in
        below k (omega arith) h ∙ ap neg_ℤ (second (k - 800) (omega arith) (omega arith) ∙ ap (λ (j : ℕ). pos (height_of j)) i)

-- ---- the rules at every place, of the code's table
opposites : (k : ℕ) → k < places → at ((k + 800) % places) ≡ neg_ℤ (at k)
opposites k h = go (ltb k 800) refl
  where
    go : (b : Bool) → ltb k 800 ≡ b → at ((k + 800) % places) ≡ neg_ℤ (at k)
    go true e = let l = ltb-true k 800 e in let i : (k + 800) % 1600 ≡ k + 800 = omega arith in rw i (negated k l)
    go false e =
        let l = ltb-false k 800 e in
        let i : (k + 800) % 1600 ≡ k - 800 = omega arith in
        rw i (sym (ap neg_ℤ (below k l h) ∙ neg_ℤ-neg_ℤ (at (k - 800))))

mirrors : (k : ℕ) → k ≤ 800 → at (800 - k) ≡ at k
mirrors k h = go (ltb k 400) refl
  where
    go : (b : Bool) → ltb k 400 ≡ b → at (800 - k) ≡ at k
    go true e = let l = ltb-true k 400 e in mirrored k (omega arith)
    go false e =
        let l = ltb-false k 400 e in
        let i : 800 - (800 - k) ≡ k = omega arith in
        sym (rw i at (mirrored (800 - k) (omega arith)))

size-neg : (z : ℤ) → size (neg_ℤ z) ≡ size z
size-neg (pos zero) = refl
size-neg (pos (suc n)) = omega arith
size-neg (negsuc n) = omega arith

abbrev Circled : ℕ → Type 0
Circled s = (s ≤ 32767 * 32767 + 46342) × (32767 * 32767 ≤ s + 46342)

-- what holds of the size of each entry of the first half holds of all
half-sizes : (k : ℕ) → 800 ≤ k → k < places → size (at k) ≡ size (at (k - 800))
half-sizes k l h = ap size (below k l h) ∙ size-neg (at (k - 800))

-- the squares of a place and of the one a quarter further on
circle-first : (k : ℕ) → k ≤ 400 → Circled (squares (at k) (at (k + 400)))
circle-first k h =
    let s = squares (at k) (at (k + 400)) in
    let t = both_left (circled s) (leb (size (at k)) 32767) (sizes k h) in
    (leb→le s _ (both_left (leb s (32767 * 32767 + 46342)) (leb (32767 * 32767) (s + 46342)) t), leb→le _ (s + 46342) (both_right (leb s (32767 * 32767 + 46342)) (leb (32767 * 32767) (s + 46342)) t))

circle-half : (k : ℕ) → k ≤ 800 → Circled (squares (at k) (at (k + 400)))
circle-half k h = go (ltb k 401) refl
  where
    go : (b : Bool) → ltb k 401 ≡ b → Circled (squares (at k) (at (k + 400)))
    go true e = let l = ltb-true k 401 e in circle-first k (omega arith)
    go false e =
        let l = ltb-false k 401 e in
        let i : k + 400 - 800 ≡ k - 400 = omega arith in
        let j : 800 - (k - 400) ≡ 800 - k + 400 = omega arith in
        let own : at k ≡ at (800 - k) = sym (mirrors k h) in
        let far : size (at (k + 400)) ≡ size (at (800 - k + 400)) =
        half-sizes (k + 400) (omega arith) (omega arith) ∙ ap (λ (m : ℕ). size (at m)) i ∙ ap size (sym (mirrors (k - 400) (omega arith))) ∙ ap (λ (m : ℕ). size (at m)) j in
        rw (own, far) (circle-first (800 - k) (omega arith))

circles : (k : ℕ) → k < places → Circled (squares (at k) (at ((k + 400) % places)))
circles k h = go (ltb k 801) refl
  where
    go : (b : Bool) → ltb k 801 ≡ b → Circled (squares (at k) (at ((k + 400) % places)))
    go true e = let l = ltb-true k 801 e in let i : (k + 400) % 1600 ≡ k + 400 = omega arith in rw i (circle-half k (omega arith))
    go false e =
        let l = ltb-false k 801 e in
        let i : (k - 800 + 400 + 800) % 1600 ≡ (k + 400) % 1600 = omega arith in
        let far : size (at ((k + 400) % places)) ≡ size (at (k - 800 + 400)) =
        ap (λ (m : ℕ). size (at m)) (sym i) ∙ ap size (opposites (k - 800 + 400) (omega arith)) ∙ size-neg (at (k - 800 + 400)) in
        rw (half-sizes k (omega arith) h, far) (circle-half (k - 800) (omega arith))

small : (k : ℕ) → k < places → size (at k) ≤ 32767
small k h = go (ltb k 401) refl (ltb k 801) refl
  where
    low : (j : ℕ) → j ≤ 400 → size (at j) ≤ 32767
    low j l = leb→le (size (at j)) 32767 (both_right (circled (squares (at j) (at (j + 400)))) (leb (size (at j)) 32767) (sizes j l))

    mid : (j : ℕ) → 400 ≤ j → j ≤ 800 → size (at j) ≤ 32767
    mid j l m = rw (sym (mirrors j m)) (low (800 - j) (omega arith))

    up : (j : ℕ) → j ≤ 800 → (b : Bool) → ltb j 401 ≡ b → size (at j) ≤ 32767
    up j m true e = let l = ltb-true j 401 e in low j (omega arith)
    up j m false e = let l = ltb-false j 401 e in mid j (omega arith) m

    go : (a : Bool) → ltb k 401 ≡ a → (b : Bool) → ltb k 801 ≡ b → size (at k) ≤ 32767
    go a e true f = let l = ltb-true k 801 f in up k (omega arith) (ltb k 401) refl
    go a e false f = let l = ltb-false k 801 f in rw (half-sizes k (omega arith) h) (up (k - 800) (omega arith) (ltb (k - 800) 401) refl)

-- ---- and of the definition
pub rules : TableRules
rules =
    record {
      opposite = λ k h. rw (sym (table_is ((k + 800) % places) (omega arith)), sym (table_is k h)) (opposites k h);
      mirror = λ k h. rw (sym (table_is (800 - k) (omega arith)), sym (table_is k (omega arith))) (mirrors k h);
      rises = λ k h. rw (sym (table_is k (omega arith)), sym (table_is (k + 1) (omega arith))) (is_true _ (rise k h));
      circle = λ k h. rw (sym (table_is k h), sym (table_is ((k + 400) % places) (omega arith))) (circles k h);
      no_tie = λ k h. rw (sym (table_is k (omega arith))) (is_true _ (tie-free k h));
      within = λ k h. rw (sym (table_is k h)) (small k h);
    }
  where
    is_true : (b : Bool) → T b → b ≡ true
    is_true true t = refl
    is_true false t = absurd t

-- ---- an entry as the code reads and stores it
fits : (z : ℤ) → size z ≤ 32767 → SFits w32 z
fits (pos n) h = record { sfits = omega arith }
fits (negsuc n) h = record { sfits = omega arith }

pub stays : (k : ℕ) (v : ℤ) → k < places → v ≡ entry_of k → to_z w32 (of_z w32 v) ≡ entry_of k
stays k v h e = rw e (to_z-of_z w32 (entry_of k) (fits (entry_of k) (rules.within k h)))
