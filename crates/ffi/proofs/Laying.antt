-- A store's answers as numbers. Assumes nothing.
use Rattle.std.specs.Prelude.{Result, Ok, Err}
use Prim.Native.Nat.{ℕ}
use mathlib.Core.Path.{◌≡◌, refl, sym, ap, ◌∙◌}
use mathlib.Core.List.{List, [], ◌∷◌}
use Rattle.refusal.specs.Refusals.{number_of, reply_in}
use Rattle.refusal.specs.declared.Refusal.{Refusal}
use Rattle.bell103.specs.declared.Role.{Role}
use Rattle.store.specs.declared.reading.Found.{Found}
use Rattle.store.specs.Line.{role_byte}
use Rattle.store.specs.Store.{read_of, Writing, writing, write_of}
use Rattle.calls.specs.Answers.{number_in}
use Rattle.calls.specs.Roles.{role_of}
use Rattle.ffi.specs.Durations.{at_front}
use Rattle.ffi.specs.Settings.{laid, told, read_run}

pub laid-row : (f : Found) (out : List ℕ) (r : ℕ) → r ≡ role_byte f.settings.role → at_front (f.settings.rate ∷ f.settings.station ∷ r ∷ f.unknown ∷ []) out ≡ laid f out
unfolding laid at_front
laid-row f out r e = rw e refl

-- what a read told
module _ (b out : List ℕ) (a : Result Found Refusal) (read : reply_in a ≡ read_of b) where
  pub read-given : (f : Found) → a ≡ Ok f → (out' : List ℕ) → out' ≡ laid f out → told 0 out' ≡ read_run b out
  unfolding read_run
  read-given f e out' p = rw (sym read ∙ ap reply_in e, p) refl

  pub read-refused : (r : Refusal) → a ≡ Err r → (n : ℕ) → n ≡ number_of r → told n out ≡ read_run b out
  unfolding read_run
  read-refused r e n p = rw (sym read ∙ ap reply_in e, p) refl

-- what a write told
pub write-told : (b : List ℕ) (rate station n : ℕ) (role : Role) (a : Result Unit Refusal) (b' : List ℕ) (k : ℕ) → role ≡ role_of n
    → writing (reply_in a) b' ≡ write_of b rate station role → k ≡ number_in (reply_in a)
    → (k ≡ number_in (write_of b rate station (role_of n)).answer) × (b' ≡ (write_of b rate station (role_of n)).buffer)
write-told b rate station n role a b' k e w p =
    let q = w ∙ ap (write_of b rate station) e in
    (p ∙ ap (λ (x : Writing). number_in x.answer) q, ap (λ (x : Writing). x.buffer) q)
