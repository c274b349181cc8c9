-- Each encoding has its own function. Assumes nothing.
use lib.Dec.{lit≤}
use Rattle.wav.proofs.SampleLaws.{power-15, power-23, power-31}
use borrow.Author.Rules.{rules}
use Rattle.wav.proofs.sample.sample.Goals as goal

pub pcm-requires : goal.pcm-requires
pcm-requires c = (search rules, lit≤ tt, power-15)

pub pcm-requires-in-Pcm24 : goal.pcm-requires-in-Pcm24
pcm-requires-in-Pcm24 c = (search rules, lit≤ tt, power-23)

pub pcm-requires-in-Pcm32 : goal.pcm-requires-in-Pcm32
pcm-requires-in-Pcm32 c = (search rules, lit≤ tt, power-31)
