-- A store read in one pass: what its bytes so far say. Assumes nothing.
use Rattle.store.specs.declared.line.Settings.{Settings}
use Rattle.std.specs.Prelude.{Result, Ok, Err, Option, None}
use Prim.Native.Nat.{ℕ, suc, ◌+◌, ◌-◌, ◌≤◌, ◌<◌, min}
use mathlib.Core.Path.{◌≡◌, refl, sym, ap, ◌∙◌}
use mathlib.Core.Bool.{Bool, true, false}
use mathlib.Core.List.{List, [], ◌∷◌, ◌++◌}
use lib.Dec.{eqb}
use lib.ListN.{length, get_or, take, drop, length-drop, drop_of_length-le}
use lib.Seq.{take-suc, drop-cons, get_or-drop, length-take-le}
use Rattle.std.proofs.Math.Nat.{min_comm, min-le_left}
use Rattle.std.proofs.lemmas.List.{take_min}
use native.Mathlib.Numerals.{add-one}
use native.Mathlib.Omega.{arith}
use Rattle.std.specs.Prelude.{if◌then◌else◌}
use Rattle.store.specs.declared.line.Settings.{Settings}
use Rattle.store.specs.declared.line.Flaw.{Flaw}
use Rattle.store.specs.declared.line.Flaw.TheVariants.{UnknownVersion, Damaged}
use Rattle.store.specs.declared.reading.Scan.{Scan}
use Rattle.store.specs.Line.{judged}
use Rattle.store.specs.Store.{store_of, lines_from, last_good, one_unknown, unknowns, answer_of, read_of}
use Rattle.store.specs.StoreRep.{passed_line, passed}

-- ---- the store of a buffer
-- a count of bytes that cuts the store off the buffer is the store's length
pub store_length : (b : List ℕ) (n : ℕ) → n ≤ length b → take n b ≡ store_of b → length (store_of b) ≡ n
store_length b n h e = ap length (sym e) ∙ length-take-le n b h

pub store-cut : (b : List ℕ) (n : ℕ) → n ≡ min (length b) 256 → (n ≤ length b) × (take n b ≡ store_of b)
store-cut b n e = (rw e (min-le_left (length b) 256), rw (e, min_comm (length b) 256) (take_min 256 b))

-- ---- the loop
-- the line that is not ended
abbrev pub open-line : List ℕ → Scan → ℕ → List ℕ
open-line s f i = take (i - f.start) (drop f.start s)

-- before place i
pub record Going (s : List ℕ) (f : Scan) (i : ℕ) : Type 0 where
  pub began : f.start ≤ i
  pub few : f.unknown ≤ i
  pub last : last_good f.latest (lines_from (open-line s f i) (drop i s)) ≡ last_good None (lines_from [] s)
  pub count : f.unknown + unknowns (lines_from (open-line s f i) (drop i s)) ≡ unknowns (lines_from [] s)

pub going_start : (s : List ℕ) → Going s (record { start = 0; latest = None; unknown = 0 }) 0
going_start s = record { began = omega arith; few = omega arith; last = refl; count = omega arith }

one-most : (j : Result Settings Flaw) → one_unknown j ≤ 1
one-most (Ok s) = omega arith
one-most (Err UnknownVersion) = omega arith
one-most (Err Damaged) = omega arith

open_more : (s : List ℕ) (f : Scan) (i : ℕ) → f.start ≤ i → i < length s → open-line s f (i + 1) ≡ open-line s f i ++ get_or s i 0 ∷ []
open_more s f i p h =
    let k : i + 1 - f.start ≡ suc (i - f.start) = omega arith in
    let n : f.start + (i - f.start) ≡ i = omega arith in
    let l = length-drop f.start s in
    let at : get_or (drop f.start s) (i - f.start) 0 ≡ get_or s i 0 =
    get_or-drop f.start s (i - f.start) 0 ∙ ap (λ (m : ℕ). get_or s m 0) n in
    ap (λ (m : ℕ). take m (drop f.start s)) k
    ∙ take-suc (drop f.start s) (i - f.start) 0 (omega arith)
    ∙ ap (λ (c : ℕ). open-line s f i ++ c ∷ []) at

rest-is : (s : List ℕ) (i : ℕ) → i < length s → drop i s ≡ get_or s i 0 ∷ drop (i + 1) s
rest-is s i h = rw (add-one i) (drop-cons s i 0 h)

going-by : (t : Bool) (s : List ℕ) (f : Scan) (i : ℕ) → eqb (get_or s i 0) 10 ≡ t → i < length s → Going s f i
    → Going s (if t then passed_line f (judged (open-line s f i)) (i + 1) else f) (i + 1)
unfolding lines_from last_good unknowns
going-by true s f i e h g =
    let l : List ℕ = open-line s f i in
    let r : List ℕ = drop (i + 1) s in
    let z : i + 1 - (i + 1) ≡ 0 = omega arith in
    let one = one-most (judged l) in
    let n = g.few in
    let lines : lines_from l (drop i s) ≡ l ∷ lines_from [] r = rw (rest-is s i h, e) refl in
    let q : f.unknown + (one_unknown (judged l) + unknowns (lines_from [] r)) ≡ unknowns (lines_from [] s) =
    ap (λ (x : List (List ℕ)). f.unknown + unknowns x) (sym lines) ∙ g.count in
    record {
      began = omega arith;
      few = omega arith;
      last = rw z (ap (last_good f.latest) (sym lines) ∙ g.last);
      count = rw z (omega (arith, q));
    }
going-by false s f i e h g =
    let l : List ℕ = open-line s f i in
    let r : List ℕ = drop (i + 1) s in
    let p = g.began in
    let n = g.few in
    let lines : lines_from l (drop i s) ≡ lines_from (open-line s f (i + 1)) r =
    rw (rest-is s i h, e) (ap (λ (k : List ℕ). lines_from k r) (sym (open_more s f i p h))) in
    record {
      began = omega arith;
      few = omega arith;
      last = ap (last_good f.latest) (sym lines) ∙ g.last;
      count = ap (λ (x : List (List ℕ)). f.unknown + unknowns x) (sym lines) ∙ g.count;
    }

-- a byte more
pub going_on : (s : List ℕ) (f : Scan) (i : ℕ) → i < length s → Going s f i → Going s (passed f s i) (i + 1)
unfolding passed
going_on s f i h g = going-by (eqb (get_or s i 0) 10) s f i refl h g

-- all of them
pub going_end : (s : List ℕ) (f : Scan) (i : ℕ) → length s ≤ i → Going s f i
    → (f.latest ≡ last_good None (lines_from [] s)) × (f.unknown ≡ unknowns (lines_from [] s))
unfolding lines_from last_good unknowns
going_end s f i h g =
    let e = drop_of_length-le s {i = i} h in
    let q : f.unknown + 0 ≡ unknowns (lines_from [] s) = rw e at g.count in
    (rw e at g.last, omega (arith, q))

-- what a read answers
pub read_is : (b t : List ℕ) (a : Option Settings) (n : ℕ) → t ≡ store_of b → a ≡ last_good None (lines_from [] t) → n ≡ unknowns (lines_from [] t)
    → (o : Option Settings) → a ≡ o → answer_of o n ≡ read_of b
unfolding read_of
read_is b t a n e p q o f = rw (← e, ← p, ← q, f) refl
