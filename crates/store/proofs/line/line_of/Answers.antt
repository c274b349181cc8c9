-- Each character is what `high` and `low` ensure of it. Assumes nothing.
use mathlib.Core.Path.{refl}
use Rattle.hexadecimal.specs.Hex.{hex_line, digit}
use Rattle.store.specs.Line.{line_of, frame_of}
use Rattle.store.proofs.line.line_of.Goals as goal

pub returns : goal.returns
unfolding line_of frame_of hex_line digit
returns c =
    rw (
      c.low-6.ensures,
      c.high-6.ensures,
      c.low-5.ensures,
      c.high-5.ensures,
      c.low-4.ensures,
      c.high-4.ensures,
      c.low-3.ensures,
      c.high-3.ensures,
      c.low-2.ensures,
      c.high-2.ensures,
      c.low.ensures,
      c.high.ensures,
      c.check_of-k.ensures,
      c.role_byte-o.ensures.0,
    )
    refl
