-- Durations as numbers. Assumes nothing.
use Prim.Native.Nat.{ℕ, ◌+◌, ◌<◌, ◌≤◌}
use mathlib.Core.Path.{◌≡◌, refl, sym, ap, ◌∙◌}
use mathlib.Core.List.{List, ◌++◌}
use native.Mathlib.Nat.{zero-add}
use borrow.Author.Tests.{lt-ltb, le-ltb}
use lib.ListN.{length, drop}
use Rattle.refusal.specs.Refusals.{Reply, given, refused}
use Rattle.ffi.specs.Settings.{told}
use Rattle.ffi.specs.Durations.{at_front, told_by}

module _ {A : Type 0} (ns out : List A) where
  pub no_room : length out < length ns → out ≡ at_front ns out
  unfolding at_front
  no_room h = rw (lt-ltb (length out) (length ns) h) refl

  pub with-row : length ns ≤ length out → ns ++ drop (length ns) out ≡ at_front ns out
  unfolding at_front
  with-row h = rw (le-ltb (length out) (length ns) h) refl

-- what is told of a reply
module _ {A : Type 0} (f : A → List ℕ) (out : List ℕ) (a r : Reply A) (says : a ≡ r) where
  pub told-given : (x : A) → a ≡ given x → (out' : List ℕ) → out' ≡ at_front (f x) out → told 0 out' ≡ told_by f r out
  told-given x e out' p = rw (sym says ∙ e, p) refl

  pub told-refused : (k : ℕ) → a ≡ refused k → (n : ℕ) → n ≡ k → told n out ≡ told_by f r out
  told-refused k e n p = rw (sym says ∙ e, p) refl
