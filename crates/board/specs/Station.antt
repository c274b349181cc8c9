-- The station that `new` is given. Assumes nothing.
use Rattle.refusal.specs.declared.Refusal.{Refusal}
use Rattle.std.specs.Prelude.{ℕ, eqb, Result, Ok, Err}
use Rattle.std.specs.Prelude.{if◌then◌else◌}
use Rattle.refusal.specs.declared.Refusal.TheVariants.{Station}

-- `new`'s answer once the receiver's is known
unfoldable pub checked : Result Unit Refusal → ℕ → Result Unit Refusal
checked (Err r) station = Err r
checked (Ok tt) station = if eqb station 0 then Err Station else (Ok tt)
