-- So many samples are laid, one after the other. Assumes nothing.
use Rattle.std.proofs.Common.{◌≡◌, ◌*◌, length, take}
use Rattle.send_app.specs.Bytes.{table_bytes}
use Rattle.send_app.proofs.bytes.pack_table.Given as goal

abbrev pub invariant-loop-i : goal.invariant-loop-i
invariant-loop-i l = (length l.bytes ≡ 4096) × (take (2 * l.i) l.bytes ≡ table_bytes (take l.i l.samples))
