-- Where an accepted write put its line. Assumes nothing.
use Rattle.refusal.specs.declared.Refusal.{Refusal}
use Rattle.std.specs.Prelude.{Result, Ok}
use Prim.Native.Nat.{ℕ, ◌+◌, ◌≤◌}
use mathlib.Core.Path.{◌≡◌, sym, ap, ◌∙◌}
use mathlib.Core.List.{List}
use lib.ListN.{length}
use Rattle.refusal.specs.Refusals.{reply_in}
use Rattle.bell103.specs.declared.Role.{Role}
use Rattle.store.specs.Store.{store_of, first_unused, writing, write_of}
use Rattle.store.proofs.StoreLaws.{written-within}

pub placed : (b : List ℕ) (rate station : ℕ) (role : Role) (a : Result Unit Refusal) (b' : List ℕ) → writing (reply_in a) b' ≡ write_of b rate station role
    → a ≡ Ok tt → first_unused b + 15 ≤ length (store_of b)
placed b rate station role a b' w e =
    written-within b rate station role b' (ap (λ (x : Result Unit Refusal). writing (reply_in x) b') (sym e) ∙ w)
