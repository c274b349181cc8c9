-- Where the unused bytes begin, and what a write stores there. Assumes nothing.
use Prim.Native.Nat.{ℕ, suc, ◌+◌, ◌-◌, ◌≤◌, ◌<◌}
use mathlib.Core.Path.{◌≡◌, refl, ap, ap₂, subst⁻¹, ◌∙◌}
use mathlib.Core.Bool.{Bool, true, false}
use mathlib.Core.List.{List, [], ◌∷◌, ◌++◌}
use lib.Dec.{eqb}
use lib.ListN.{length, get_or, set, take, drop, length-drop, length-take, drop_of_length-le}
use lib.Seq.{split_at, drop-cons, get_or-take, paste, paste-suc}
use native.Mathlib.Numerals.{add-one}
use native.Mathlib.Omega.{arith}
use borrow.Author.Tests.{eq-eqb, ne_eqb, lt-ltb, le-ltb}
use Rattle.std.specs.Prelude.{if◌then◌else◌}
use Rattle.refusal.specs.Refusals.{given, refused, first, rate_refused}
use Rattle.bell103.specs.declared.Role.{Role}
use Rattle.store.specs.Line.{line_of}
use Rattle.store.specs.Store.{store_of, unused_from, unused_of, first_unused, torn, write_number, writing, write_of}
use Rattle.store.specs.Claims.{NoEnd}
use Rattle.store.proofs.Lines.{unused-none, room-is}
use Rattle.store.proofs.Passing.{store_length}

-- ---- the last 0A, looked for from behind
unused-ten-by : (t : Bool) (l : List ℕ) (c : ℕ) (s ys : List ℕ) → ((k : List ℕ) → unused_from k s ≡ ys)
    → (if t then unused_from [] s else unused_from (l ++ c ∷ []) s) ≡ ys
unused-ten-by true l c s ys h = h []
unused-ten-by false l c s ys h = h (l ++ c ∷ [])

unused-ten : (l xs ys : List ℕ) → NoEnd ys → unused_from l (xs ++ 10 ∷ ys) ≡ ys
unfolding unused_from
unused-ten l [] ys p = unused-none [] ys p
unused-ten l (c ∷ xs) ys p = unused-ten-by (eqb c 10) l c (xs ++ 10 ∷ ys) ys (λ k. unused-ten k xs ys p)

place_of : (s u : List ℕ) (at : ℕ) → at ≤ length s → u ≡ drop at s → at ≡ length s - length u
place_of s u at h e = let l = ap length e ∙ length-drop at s in omega arith

-- behind place `at` there is none
abbrev pub Behind : List ℕ → ℕ → Type 0
Behind b at = (at ≤ length (store_of b)) × NoEnd (drop at (store_of b))

pub behind-start : (b : List ℕ) (n : ℕ) → n ≤ length b → take n b ≡ store_of b → Behind b n
behind-start b n h e =
    let l = store_length b n h e in
    let none : drop n (store_of b) ≡ [] = drop_of_length-le (store_of b) {i = n} (omega arith) in
    (omega arith, rw none tt)

-- the byte before it, in buffer and store
byte-same : (b : List ℕ) (at : ℕ) → 0 < at → at ≤ length (store_of b) → get_or (store_of b) (at - 1) 0 ≡ get_or b (at - 1) 0
byte-same b at p h = get_or-take 256 b (at - 1) 0 (omega (arith, length-take 256 b))

pub behind-on : (b : List ℕ) (at : ℕ) → 0 < at → Behind b at → (get_or b (at - 1) 0 ≡ 10 → ⊥) → Behind b (at - 1)
behind-on b at p h n =
    let k : suc (at - 1) ≡ at = omega arith in
    let e : drop (at - 1) (store_of b) ≡ get_or b (at - 1) 0 ∷ drop at (store_of b) =
    drop-cons (store_of b) (at - 1) 0 (omega arith) ∙ ap₂ (λ (c m : ℕ). c ∷ drop m (store_of b)) (byte-same b at p h.0) k in
    (omega arith, subst⁻¹ NoEnd e (n, h.1))

pub behind-found : (b : List ℕ) (at : ℕ) → 0 < at → Behind b at → get_or b (at - 1) 0 ≡ 10 → at ≡ first_unused b
unfolding first_unused
behind-found b at p h e =
    let s : List ℕ = store_of b in
    let k : suc (at - 1) ≡ at = omega arith in
    let ten : get_or s (at - 1) 0 ≡ 10 = byte-same b at p h.0 ∙ e in
    let split : s ≡ take (at - 1) s ++ 10 ∷ drop at s =
    split_at s (at - 1) 0 (omega arith) ∙ rw (ten, k) refl in
    place_of s (unused_of b) at h.0 (ap (unused_from []) split ∙ unused-ten [] (take (at - 1) s) (drop at s) h.1)

pub behind-none : (b : List ℕ) (at : ℕ) → at ≡ 0 → Behind b at → 0 ≡ first_unused b
unfolding first_unused
behind-none b at z h =
    let n : NoEnd (store_of b) = rw z at h.1 in
    place_of (store_of b) (unused_of b) 0 (omega arith) (unused-none [] (store_of b) n)

-- ---- a write
-- how many bytes are unused
pub room-count : (b : List ℕ) (n at : ℕ) → n ≤ length b → take n b ≡ store_of b → at ≡ first_unused b → (at ≤ n) × (n - at ≡ length (unused_of b))
room-count b n at h e p =
    let l = store_length b n h e in
    let r = room-is b in
    (omega arith, omega arith)

module _ (b : List ℕ) (rate station : ℕ) (role : Role) (good : rate_refused rate ≡ false) where
  pub no-station : station ≡ 0 → writing (refused 2) b ≡ write_of b rate station role
  unfolding write_of write_number first
  no-station h = rw (good, eq-eqb station 0 h) refl

  module _ (some : station ≡ 0 → ⊥) where
    pub no_room : length (unused_of b) < 15 → writing (refused 41) b ≡ write_of b rate station role
    unfolding write_of write_number first
    no_room h = rw (good, ne_eqb station 0 some, lt-ltb (length (unused_of b)) 15 h) refl

    pub with-room : 15 ≤ length (unused_of b) → (at : ℕ) (line b' : List ℕ) → at ≡ first_unused b → line ≡ line_of rate station role → b' ≡ paste b at line 15
        → writing (given tt) b' ≡ write_of b rate station role
    unfolding write_of write_number first torn
    with-room h at line b' ea el eb = rw (good, ne_eqb station 0 some, le-ltb (length (unused_of b)) 15 h, eb, ea, el) refl

-- ---- the loop that stores
-- one byte more
pub stored_more : (b : List ℕ) (at : ℕ) (line now : List ℕ) (k : ℕ) → at + 15 ≤ length b → length line ≡ 15 → k < 15
    → now ≡ paste b at line k → set now (at + k) (get_or line k 0) ≡ paste b at line (k + 1)
stored_more b at line now k h l p e = rw (e, add-one k) (paste-suc b at line k 0 (omega arith) (omega arith))
