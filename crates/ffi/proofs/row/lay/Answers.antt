-- The row, or nothing. Assumes nothing.
use Rattle.ffi.proofs.Telling.{no_room, with-row}
use Rattle.ffi.proofs.row.lay.Goals as goal

pub returns-then-out-row : goal.returns-then-out-row
returns-then-out-row g c = no_room _ _ c.if-out-row.true

pub returns : goal.returns
returns g c = rw c.copy_from_slice.ensures.after (with-row _ _ c.if-out-row.false)
