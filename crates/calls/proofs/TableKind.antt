-- Which call of the sender that has no floats each kind is. Assumes nothing.
use Prim.Native.Nat.{ℕ}
use mathlib.Core.Path.{◌≡◌, refl, ap, ◌∙◌}
use mathlib.Core.Bool.{Bool, true, false}
use mathlib.Core.List.{List}
use lib.IntN.{ℤ}
use lib.ListN.{length}
use Rattle.std.specs.Prelude.{eqb, if◌then◌else◌}
use Rattle.modulation.specs.Requests.{write, idle_mark}
use Rattle.modulation.specs.TableTx.{TableSender, table_requested, table_read_of}
use Rattle.calls.specs.Script.{Outcome}
use Rattle.calls.specs.Table.{of_table_queueing, of_table_reading, table_called, table_kind_of}
use Rattle.calls.specs.declared.table.TableKind.{TableKind}
use Rattle.calls.specs.declared.table.TableKind.TheVariants as kinds

module _ (n : ℕ) (s : TableSender) (bytes : List ℕ) (part : List ℤ) where
  -- the call of a kind
  abbrev pub by-table-kind : TableKind → Outcome TableSender ℤ
  by-table-kind kinds.Write = of_table_queueing (table_requested s (write bytes)) part
  by-table-kind kinds.IdleMark = of_table_queueing (table_requested s (idle_mark n)) part
  by-table-kind kinds.Read = of_table_reading (table_read_of s part) (length part)

  pub table-called-is : (kind : ℕ) (k : TableKind) → k ≡ table_kind_of kind → by-table-kind k ≡ table_called kind n s bytes part
  unfolding table_called
  table-called-is kind k e = ap by-table-kind e ∙ cases (eqb kind 0) (eqb kind 1)
    where
      cases : (a b : Bool)
          → by-table-kind (if a then kinds.Write else if b then kinds.IdleMark else kinds.Read)
          ≡ (if a then by-table-kind kinds.Write else if b then by-table-kind kinds.IdleMark else by-table-kind kinds.Read)
      cases true b = refl
      cases false true = refl
      cases false false = refl
