-- The line charge as numbers, for hosts in C. Assumes nothing.
use Rattle.std.specs.Prelude.{ℕ, List, ◌∷◌, ltb, ℤ, pos, length, drop}
use Rattle.std.specs.Prelude.{if◌then◌else◌}
use Rattle.refusal.specs.Refusals as reply
use Rattle.refusal.specs.Refusals.{Reply}
use Rattle.charges.specs.declared.Month.{Month}

-- the most that 64 bits with a sign hold
abbrev pub most_shown : ℕ
most_shown = 9223372036854775807

-- a call's thousandths; nothing where there is no room for one number
unfoldable pub laid_call : ℕ → List ℕ → List ℕ
laid_call n out = if ltb (length out) 1 then out else n ∷ drop 1 out

-- a month's thousandths, pence and part; nothing where there is no room for three
unfoldable pub laid_month : Month → List ℤ → List ℤ
laid_month m out = if ltb (length out) 3 then out else pos m.thousandths ∷ pos m.pence ∷ m.part ∷ drop 3 out

-- the slice after an answer: as it was where that is a refusal
abbrev pub call_after : Reply ℕ → List ℕ → List ℕ
call_after (reply.given n) out = laid_call n out
call_after (reply.refused k) out = out

abbrev pub month_after : Reply Month → List ℤ → List ℤ
month_after (reply.given m) out = laid_month m out
month_after (reply.refused k) out = out
