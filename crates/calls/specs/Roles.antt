-- A role as a number. Assumes nothing.
use Rattle.std.specs.Prelude.{ℕ, eqb}
use Rattle.std.specs.Prelude.{if◌then◌else◌}
use Rattle.bell103.specs.declared.Role.{Role}
use Rattle.bell103.specs.declared.Role.TheVariants.{Originate, Answer}

-- 0 is the end that dials; any other number the one that picks up
abbrev pub role_of : ℕ → Role
role_of n = if eqb n 0 then Originate else Answer
