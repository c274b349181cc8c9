-- A character more while there is room. Assumes nothing.
use Rattle.tide.proofs.Moves.{longer-some, longer-none}
use Rattle.tide.proofs.decoder.Line.longer.Goals as goal

pub returns-then-self-lt64 : goal.returns-then-self-lt64
returns-then-self-lt64 c = longer-some c.args.self c.args.c c.if-self-lt64.true

pub returns : goal.returns
returns c = longer-none c.args.self c.args.c c.if-self-lt64.false
