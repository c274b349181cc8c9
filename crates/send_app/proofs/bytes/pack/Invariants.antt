-- So many samples are laid, one after the other. Assumes nothing.
use Rattle.std.proofs.Common.{◌≡◌, ◌*◌, length, take}
use Rattle.send_app.specs.Header.{width_of}
use Rattle.send_app.specs.Bytes.{block_bytes}
use Rattle.send_app.proofs.bytes.pack.Given as goal

abbrev pub invariant-loop-i : goal.invariant-loop-i
invariant-loop-i l = (length l.bytes ≡ 4096) × (take (width_of l.kind * l.i) l.bytes ≡ block_bytes l.kind (take l.i l.samples))
