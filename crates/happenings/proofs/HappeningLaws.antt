-- Happenings after happenings, how many bytes and bad stops there are among them, and codes read back. Assumes nothing.
use Prim.Native.Nat.{ℕ, suc, ◌+◌, ◌<◌, ◌≤◌}
use mathlib.Core.Path.{◌≡◌, refl, sym, ap, ◌∙◌}
use mathlib.Core.List.{List, [], ◌∷◌, ◌++◌, append_assoc}
use native.Mathlib.Omega.{arith}
use borrow.Author.Tests.{lt-ltb}
use lib.ListN.{length, length-append}
use Rattle.happenings.specs.Happening.{byte_of, change_of, bad_stop_of, bytes_in, changes_in, bad_stops_in, happening_of, happenings_of}
use Rattle.happenings.specs.declared.happening.Happening.{Happening}
use Rattle.happenings.specs.declared.happening.Happening.TheVariants.{Byte, BadStop, Lost, Up, Down}

-- ---- one list after another
pub bytes-append : (xs ys : List Happening) → bytes_in (xs ++ ys) ≡ bytes_in xs ++ bytes_in ys
unfolding bytes_in
bytes-append [] ys = refl
bytes-append (x ∷ xs) ys = ap (λ l. byte_of x ++ l) (bytes-append xs ys) ∙ sym (append_assoc (byte_of x) (bytes_in xs) (bytes_in ys))

pub changes-append : (xs ys : List Happening) → changes_in (xs ++ ys) ≡ changes_in xs ++ changes_in ys
unfolding changes_in
changes-append [] ys = refl
changes-append (x ∷ xs) ys = ap (λ l. change_of x ++ l) (changes-append xs ys) ∙ sym (append_assoc (change_of x) (changes_in xs) (changes_in ys))

pub bads-append : (xs ys : List Happening) → bad_stops_in (xs ++ ys) ≡ bad_stops_in xs + bad_stops_in ys
unfolding bad_stops_in
bads-append [] ys = omega arith
bads-append (x ∷ xs) ys = omega (arith, bads-append xs ys)

-- ---- a happening is a byte or a bad stop, or neither
pub one-few : (h : Happening) → length (byte_of h) + bad_stop_of h ≤ 1
one-few (Byte b) = omega arith
one-few BadStop = omega arith
one-few Lost = omega arith
one-few Up = omega arith
one-few Down = omega arith

pub parts-few : (hs : List Happening) → length (bytes_in hs) + bad_stops_in hs ≤ length hs
unfolding bytes_in bad_stops_in
parts-few [] = omega arith
parts-few (h ∷ hs) = omega (arith, length-append (byte_of h) (bytes_in hs), one-few h, parts-few hs)

-- ---- codes
-- a byte's code stands for it
pub byte-back : (b : ℕ) → b < 256 → happening_of b ≡ Byte b
unfolding happening_of
byte-back b w = rw (lt-ltb b 256 w)

pub codes-append : (xs ys : List ℕ) → happenings_of (xs ++ ys) ≡ happenings_of xs ++ happenings_of ys
unfolding happenings_of
codes-append [] ys = refl
codes-append (x ∷ xs) ys = ap (λ l. happening_of x ∷ l) (codes-append xs ys)

pub codes-length : (xs : List ℕ) → length (happenings_of xs) ≡ length xs
unfolding happenings_of
codes-length [] = refl
codes-length (x ∷ xs) = ap suc (codes-length xs)
