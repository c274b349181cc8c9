-- The kind picks the case. Assumes nothing.
use Rattle.send_app.proofs.BytesLaws.{wide_at, placed_at, word-placed, half-placed}
use Rattle.send_app.proofs.bytes.put_sample.Goals as goal

pub put_word-requires : goal.put_word-requires
put_word-requires c = wide_at _ _ c.in-Float.is c.requires

pub put_half-requires : goal.put_half-requires
put_half-requires c = wide_at _ _ c.in-Pcm16.is c.requires

pub returns-in-Float : goal.returns-in-Float
returns-in-Float c = placed_at c.args.bytes.now c.args.at c.args.x c.in-Float.is (word-placed c.args.bytes.now c.args.at c.args.x c.put_word.ensures c.pattern_of.ensures)

pub returns-in-Pcm16 : goal.returns-in-Pcm16
returns-in-Pcm16 c = placed_at c.args.bytes.now c.args.at c.args.x c.in-Pcm16.is (half-placed c.args.bytes.now c.args.at c.args.x c.put_half.ensures c.pcm_16.ensures)
