-- The lines of a store and what is unused: there is one such division, and what is written behind the last 0A changes it as it should.
-- Assumes nothing.
use Prim.Native.Nat.{ℕ, zero, suc, ◌+◌, ◌-◌, ◌≤◌}
use mathlib.Core.Path.{◌≡◌, refl, sym, ap, ◌∙◌}
use mathlib.Core.Bool.{Bool, true, false}
use mathlib.Core.List.{List, [], ◌∷◌, ◌++◌, append_assoc, append-nil}
use lib.Dec.{eqb}
use lib.ListN.{length, take, drop, length-append, length-take}
use lib.Seq.{take-take, take-add, take_at, drop_at, drop-append-add, take-append-add, length-take-le, length_paste_head, take-length, paste}
use native.Mathlib.Omega.{arith}
use borrow.Author.Tests.{ne_eqb, eqb-true, eqb-false}
use Rattle.std.specs.Prelude.{if◌then◌else◌}
use Rattle.store.specs.Store.{store_of, lines_from, unused_from, lines_of, unused_of, first_unused, torn}
use Rattle.store.specs.Claims.{NoEnd, NoEnds, joined, Divided}

-- ---- characters without 0A
pub none-append : (a b : List ℕ) → NoEnd a → NoEnd b → NoEnd (a ++ b)
none-append [] b p q = q
none-append (c ∷ a) b p q = (p.0, none-append a b p.1 q)

pub none-take : (k : ℕ) (a : List ℕ) → NoEnd a → NoEnd (take k a)
none-take zero a p = tt
none-take (suc k) [] p = tt
none-take (suc k) (c ∷ a) p = (p.0, none-take k a p.1)

pub none-drop : (k : ℕ) (a : List ℕ) → NoEnd a → NoEnd (drop k a)
none-drop zero a p = p
none-drop (suc k) [] p = tt
none-drop (suc k) (c ∷ a) p = none-drop k a p.1

-- they belong to the line that is not ended
pub lines-on : (l xs ys : List ℕ) → NoEnd xs → lines_from l (xs ++ ys) ≡ lines_from (l ++ xs) ys
unfolding lines_from
lines-on l [] ys p = ap (λ (k : List ℕ). lines_from k ys) (sym (append-nil l))
lines-on l (c ∷ xs) ys p =
    rw (ne_eqb c 10 p.0) (lines-on (l ++ c ∷ []) xs ys p.1 ∙ ap (λ (k : List ℕ). lines_from k ys) (append_assoc l (c ∷ []) xs))

pub unused-on : (l xs ys : List ℕ) → NoEnd xs → unused_from l (xs ++ ys) ≡ unused_from (l ++ xs) ys
unfolding unused_from
unused-on l [] ys p = ap (λ (k : List ℕ). unused_from k ys) (sym (append-nil l))
unused-on l (c ∷ xs) ys p =
    rw (ne_eqb c 10 p.0) (unused-on (l ++ c ∷ []) xs ys p.1 ∙ ap (λ (k : List ℕ). unused_from k ys) (append_assoc l (c ∷ []) xs))

pub lines_none : (l u : List ℕ) → NoEnd u → lines_from l u ≡ []
unfolding lines_from
lines_none l [] p = refl
lines_none l (c ∷ u) p = rw (ne_eqb c 10 p.0) (lines_none (l ++ c ∷ []) u p.1)

pub unused-none : (l u : List ℕ) → NoEnd u → unused_from l u ≡ l ++ u
unfolding unused_from
unused-none l [] p = sym (append-nil l)
unused-none l (c ∷ u) p = rw (ne_eqb c 10 p.0) (unused-none (l ++ c ∷ []) u p.1 ∙ append_assoc l (c ∷ []) u)

-- ---- one division
-- lines and unused bytes that are put together are those that are found
pub lines-joined : (ls : List (List ℕ)) (u : List ℕ) → NoEnds ls → NoEnd u → lines_from [] (joined ls ++ u) ≡ ls
unfolding joined lines_from
lines-joined [] u p q = lines_none [] u q
lines-joined (l ∷ ls) u p q =
    rw (append_assoc l (10 ∷ joined ls) u) (lines-on [] l (10 ∷ (joined ls ++ u)) p.0 ∙ ap (λ (r : List (List ℕ)). l ∷ r) (lines-joined ls u p.1 q))

pub unused-joined : (ls : List (List ℕ)) (u : List ℕ) → NoEnds ls → NoEnd u → unused_from [] (joined ls ++ u) ≡ u
unfolding joined unused_from
unused-joined [] u p q = unused-none [] u q
unused-joined (l ∷ ls) u p q =
    rw (append_assoc l (10 ∷ joined ls) u) (unused-on [] l (10 ∷ (joined ls ++ u)) p.0 ∙ unused-joined ls u p.1 q)

-- and what is found is a division of the bytes
found-by : (t : Bool) (l : List ℕ) (c : ℕ) (s : List ℕ) → eqb c 10 ≡ t → NoEnd l
    → ((k : List ℕ) → NoEnd k → Divided (k ++ s) (lines_from k s) (unused_from k s))
    → Divided (l ++ c ∷ s) (if t then l ∷ lines_from [] s else lines_from (l ++ c ∷ []) s) (if t then unused_from [] s else unused_from (l ++ c ∷ []) s)
unfolding joined
found-by true l c s e p h =
    let d = h [] tt in
    record {
      bytes = rw (eqb-true c 10 e) (ap (λ (r : List ℕ). l ++ 10 ∷ r) d.bytes ∙ sym (append_assoc l (10 ∷ joined (lines_from [] s)) (unused_from [] s)));
      lines = (p, d.lines);
      unused = d.unused;
    }
found-by false l c s e p h =
    let d = h (l ++ c ∷ []) (none-append l (c ∷ []) p (eqb-false c 10 e, tt)) in
    record { bytes = sym (append_assoc l (c ∷ []) s) ∙ d.bytes; lines = d.lines; unused = d.unused }

pub divided-from : (l s : List ℕ) → NoEnd l → Divided (l ++ s) (lines_from l s) (unused_from l s)
unfolding lines_from unused_from joined
divided-from l [] p = record { bytes = append-nil l; lines = tt; unused = p }
divided-from l (c ∷ s) p = found-by (eqb c 10) l c s refl p (λ k q. divided-from k s q)

-- "Its lines are what stands before each 0A; what is behind the last is unused": a store is so divided
pub divided : (b : List ℕ) → Divided (store_of b) (lines_of b) (unused_of b)
divided b = divided-from [] (store_of b) tt

-- and in no other way
pub divided-once : (b : List ℕ) (ls : List (List ℕ)) (u : List ℕ) → Divided (store_of b) ls u → (lines_of b ≡ ls) × (unused_of b ≡ u)
divided-once b ls u d =
    (ap (lines_from []) d.bytes ∙ lines-joined ls u d.lines d.unused, ap (unused_from []) d.bytes ∙ unused-joined ls u d.lines d.unused)

-- ---- bytes put where the unused ones begin
-- the first m bytes after a change among them
take-paste-within : (m : ℕ) (b : List ℕ) (at : ℕ) (x : List ℕ) (k : ℕ) → at + k ≤ length (take m b) → k ≤ length x
    → take m (paste b at x k) ≡ paste (take m b) at x k
take-paste-within m b at x k h g =
    let n = length-take m b in
    let most : at + k ≤ m = omega arith in
    let p : List ℕ = take at b ++ take k x in
    let long : length p ≡ at + k = length_paste_head b at x k (omega arith) g in
    let split : m ≡ length p + (m - (at + k)) = omega arith in
    let whole : at + k + (m - (at + k)) ≡ m = omega arith in
    let rest : take (m - (at + k)) (drop (at + k) b) ≡ drop (at + k) (take m b) =
    sym (ap (drop (at + k)) (ap (λ (j : ℕ). take j b) (sym whole) ∙ take-add (at + k) (m - (at + k)) b)
    ∙ drop_at (take (at + k) b) _ (at + k) (length-take-le (at + k) b (omega arith))) in
    let front : take at (take m b) ≡ take at b = take-take at m b (omega arith) in
    ap (λ (j : ℕ). take j (p ++ drop (at + k) b)) split
    ∙ take-append-add p (drop (at + k) b) (m - (at + k))
    ∙ ap (λ (r : List ℕ). p ++ r) rest
    ∙ ap (λ (r : List ℕ). r ++ take k x ++ drop (at + k) (take m b)) (sym front)

-- a list divided in two, changed behind the first part
paste-behind : (a u x : List ℕ) (k : ℕ) → paste (a ++ u) (length a) x k ≡ a ++ (take k x ++ drop k u)
paste-behind a u x k =
    rw (take_at a u (length a) refl, drop-append-add a u k) (append_assoc a (take k x) (drop k u))

-- unused bytes are bytes of the store
pub first-place : (b : List ℕ) → first_unused b ≡ length (joined (lines_of b))
unfolding first_unused
first-place b =
    let e = ap length (divided b).bytes ∙ length-append (joined (lines_of b)) (unused_of b) in
    omega arith

pub room-is : (b : List ℕ) → first_unused b + length (unused_of b) ≡ length (store_of b)
room-is b = let e = ap length (divided b).bytes ∙ length-append (joined (lines_of b)) (unused_of b) in omega (arith, first-place b)

-- the store with only the first k bytes of x put there
pub store-torn : (b x : List ℕ) (k : ℕ) → k ≤ length x → k ≤ length (unused_of b)
    → store_of (torn b x k) ≡ joined (lines_of b) ++ (take k x ++ drop k (unused_of b))
unfolding torn
store-torn b x k g h =
    take-paste-within 256 b (first_unused b) x k (omega (arith, room-is b)) g
    ∙ ap (λ (n : ℕ). paste (store_of b) n x k) (first-place b)
    ∙ ap (λ (s : List ℕ). paste s (length (joined (lines_of b))) x k) (divided b).bytes
    ∙ paste-behind (joined (lines_of b)) (unused_of b) x k

-- where they have no 0A, the lines are as they were
pub lines-torn : (b x : List ℕ) (k : ℕ) → k ≤ length x → k ≤ length (unused_of b) → NoEnd (take k x) → lines_of (torn b x k) ≡ lines_of b
lines-torn b x k g h p =
    (divided-once (torn b x k) (lines_of b) (take k x ++ drop k (unused_of b))
    (record {
      bytes = store-torn b x k g h;
      lines = (divided b).lines;
      unused = none-append (take k x) _ p (none-drop k (unused_of b) (divided b).unused);
    })
    ).0

joined-more : (ls : List (List ℕ)) (l : List ℕ) → joined (ls ++ l ∷ []) ≡ joined ls ++ (l ++ 10 ∷ [])
unfolding joined
joined-more [] l = refl
joined-more (m ∷ ls) l = ap (λ (r : List ℕ). m ++ 10 ∷ r) (joined-more ls l) ∙ sym (append_assoc m (10 ∷ joined ls) (l ++ 10 ∷ []))

nones-more : (ls : List (List ℕ)) (l : List ℕ) → NoEnds ls → NoEnd l → NoEnds (ls ++ l ∷ [])
nones-more [] l p q = (q, tt)
nones-more (m ∷ ls) l p q = (p.0, nones-more ls l p.1 q)

-- a whole line with its 0A is one line more, and as many bytes fewer are unused
pub lines_more : (b l : List ℕ) → NoEnd l → length l + 1 ≤ length (unused_of b)
    → (lines_of (torn b (l ++ 10 ∷ []) (length l + 1)) ≡ lines_of b ++ l ∷ []) × (unused_of (torn b (l ++ 10 ∷ []) (length l + 1)) ≡ drop (length l + 1) (unused_of b))
lines_more b l p h =
    let x : List ℕ = l ++ 10 ∷ [] in
    let k : ℕ = length l + 1 in
    let long : length x ≡ k = length-append l (10 ∷ []) in
    let all : take k x ≡ x = ap (λ (n : ℕ). take n x) (sym long) ∙ take-length x in
    divided-once (torn b x k) (lines_of b ++ l ∷ []) (drop k (unused_of b))
    (record {
      bytes =
          store-torn b x k (omega arith) h
          ∙ ap (λ (r : List ℕ). joined (lines_of b) ++ (r ++ drop k (unused_of b))) all
          ∙ sym (append_assoc (joined (lines_of b)) x (drop k (unused_of b)))
          ∙ ap (λ (r : List ℕ). r ++ drop k (unused_of b)) (sym (joined-more (lines_of b) l));
      lines = nones-more (lines_of b) l (divided b).lines p;
      unused = none-drop k (unused_of b) (divided b).unused;
    })
