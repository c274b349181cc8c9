-- The digits of a word, one after the other. Assumes nothing.
use Prim.Native.Nat.{ℕ, ◌+◌, ◌≤◌, ◌<◌}
use mathlib.Core.Path.{◌≡◌, refl}
use mathlib.Core.Bool.{true, false}
use mathlib.Core.List.{List, ◌∷◌}
use native.Mathlib.Numerals.{add-one}
use native.Mathlib.Omega.{arith}
use borrow.Author.Tests.{lt-ltb, le-ltb}
use lib.Dec.{ltb}
use lib.ListN.{length, get_or, drop}
use lib.Seq.{drop-cons, drop-length}
use Rattle.console.specs.Words.{with_digit, decimal_from}

-- the rest from here on says what the whole says from the start on
pub digit-on : (most : ℕ) (word : List ℕ) (i value : ℕ) {r : ℕ} → i < length word → r ≡ with_digit most value (get_or word i 0) → r ≤ most
    → decimal_from most value (drop i word) ≡ decimal_from most r (drop (i + 1) word)
unfolding decimal_from
digit-on most word i value {r} h e l =
    let d : drop i word ≡ get_or word i 0 ∷ drop (i + 1) word = rw (add-one i) (drop-cons word i 0 h) in
    let t : ltb most r ≡ false = le-ltb most r l in
    rw (d, ← e, t) refl

pub digit-none : (most : ℕ) (word : List ℕ) (i value : ℕ) {r : ℕ} → i < length word → r ≡ with_digit most value (get_or word i 0) → most < r
    → decimal_from most value (drop i word) ≡ most + 1
unfolding decimal_from
digit-none most word i value {r} h e l =
    let d : drop i word ≡ get_or word i 0 ∷ drop (i + 1) word = rw (add-one i) (drop-cons word i 0 h) in
    let t : ltb most r ≡ true = lt-ltb most r l in
    rw (d, ← e, t) refl

pub digits-end : (most : ℕ) (word : List ℕ) (i value : ℕ) → i ≤ length word → length word ≤ i → decimal_from most value (drop i word) ≡ value
unfolding decimal_from
digits-end most word i value p q =
    let e : i ≡ length word = omega arith in
    rw (e, drop-length word) refl
