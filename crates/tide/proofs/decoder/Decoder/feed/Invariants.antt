-- From the next code on they do what the whole does from the start on. Assumes nothing.
use Rattle.tide.proofs.Moves.{Going}
use Rattle.tide.proofs.decoder.Decoder.feed.Given as goal

abbrev pub invariant-loop-code : goal.invariant-loop-code
invariant-loop-code l = Going l.initial.f.decoder l.codes l.initial.verdicts l.code-index l.f l.verdicts
