-- The words of the command. Assumes nothing.
use Rattle.bell103.specs.declared.Role.{Role}
use Rattle.std.specs.Prelude.{◌≡◌, ℕ, Bool, ◌||◌, List, [], ◌∷◌, ◌==◌, ◌≢◌, Option, Some, None, Result, Ok, Err}
use Rattle.std.specs.Prelude.{if◌then◌else◌}
use Rattle.refusal.specs.Refusals.{rate_refused}
use Rattle.send_app.specs.declared.words.Kind.TheVariants as kind
use Rattle.send_app.specs.declared.words.Source.TheVariants as source
use Rattle.send_app.specs.declared.words.Third.{Third}
use Rattle.send_app.specs.declared.words.Third.TheVariants as third
use Rattle.send_app.specs.declared.words.Unclear.{Unclear}
use Rattle.send_app.specs.declared.words.Unclear.TheVariants as unclear
use Rattle.send_app.specs.declared.words.Call.{Call}

-- "s16"
abbrev pub s16 : List ℕ
s16 = 0x73 ∷ 0x31 ∷ 0x36 ∷ []

-- "table"
abbrev pub table_name : List ℕ
table_name = 0x74 ∷ 0x61 ∷ 0x62 ∷ 0x6C ∷ 0x65 ∷ []

-- what a third word says: s16, table, or neither
pub record Says (word : List ℕ) (r : Option Third) : Type 0 where
  pub pcm : word ≡ s16 → r ≡ Some (third.Kind kind.Pcm16)
  pub table : word ≡ table_name → r ≡ Some third.Table
  pub other : (word ≢ s16) → (word ≢ table_name) → r ≡ None

-- "`send ROLE RATE`", `send ROLE RATE s16` and `send ROLE 8000 table`; the program's own name is counted too
unfoldable pub counted : ℕ → Bool
counted count = count == 3 || count == 4

-- floats, unless there is a third word
unfoldable pub third_of : ℕ → Option Third → Option Third
third_of count said = if count == 3 then Some (third.Kind kind.Float) else said

-- "at 8,000 Hz": the table has no other rate
unfoldable pub asked_table : Role → ℕ → Result Call Unclear
asked_table role rate = if rate == 8000 then Ok (record { role = role; source = source.Table }) else Err unclear.TableRate

-- the first word that is wrong
abbrev pub asked_kind : Role → ℕ → Option Third → Result Call Unclear
asked_kind role rate (Some (third.Kind k)) = Ok (record { role = role; source = source.Sine rate k })
asked_kind role rate (Some third.Table) = asked_table role rate
asked_kind role rate None = Err unclear.Kind

unfoldable pub asked_rate : Role → ℕ → Option Third → Result Call Unclear
asked_rate role rate t = if rate_refused rate then Err unclear.Rate else asked_kind role rate t

abbrev pub asked_role : Option Role → ℕ → Option Third → Result Call Unclear
asked_role None rate t = Err unclear.Role
asked_role (Some role) rate t = asked_rate role rate t

unfoldable pub asked : ℕ → Option Role → ℕ → Option Third → Result Call Unclear
asked count n rate said = if counted count then asked_role n rate (third_of count said) else Err unclear.Count
