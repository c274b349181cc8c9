-- Roles. Assumes nothing.
use mathlib.Core.Path.{◌≡◌, refl}
use Rattle.bell103.specs.declared.Role.{Role}
use Rattle.bell103.specs.declared.Role.TheVariants.{Originate, Answer}
use Rattle.bell103.specs.Roles.{other_role}

-- the other of the other is the role itself
pub other-other : (r : Role) → other_role (other_role r) ≡ r
other-other Originate = refl
other-other Answer = refl
