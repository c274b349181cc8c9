-- 128 is a power of two. Assumes nothing.
use lib.Dec.{lit≤}
use Rattle.wav.proofs.SampleLaws.{power-7}
use borrow.Author.Rules.{rules}
use Rattle.wav.proofs.sample.pcm_8.Goals as goal

pub pcm-requires : goal.pcm-requires
pcm-requires c = (search rules, lit≤ tt, power-7)
