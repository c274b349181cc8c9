-- `settings::morkhetta_settings_read` meets its contract: the match told what `read` answered. Assumes nothing.
use mathlib.Core.Path.{◌∙◌}
use Rattle.ffi.proofs.Laying.{laid-row, read-given, read-refused}
use Rattle.ffi.proofs.settings.morkhetta_settings_read.Goals as goal

pub returns-in-Ok : goal.returns-in-Ok
returns-in-Ok c =
    read-given _ _ c.read-answer.result c.read-answer.ensures _ c.in-Ok.is _ (c.lay.ensures ∙ laid-row c.in-Ok.found _ _ c.role_number-role.ensures)

pub returns-in-Err : goal.returns-in-Err
returns-in-Err c =
    read-refused _ _ c.read-answer.result c.read-answer.ensures _ c.in-Err.is _ c.from.ensures
