-- The judgement is what `judge_line` ensures, and the counts what `counted` ensures. Assumes nothing.
use mathlib.Core.Path.{refl}
use lib.ListN.{length-set}
use Rattle.tide.specs.Decoder.{bump}
use Rattle.tide.proofs.DecoderRepLaws.{held-held, length-held}
use Rattle.tide.proofs.Moves.{stepped-end}
use Rattle.tide.proofs.decoder.Decoder.end_line.Goals as goal

pub invariant_of-decoder : goal.invariant_of-decoder
unfolding bump
invariant_of-decoder c =
    let s = c.args.self in
    record {
      places = rw (c.counted-decoder.ensures, length-held (bump s.counts _), length-set) s.places;
      within = rw c.counted-decoder.ensures (held-held (bump s.counts _));
    }

pub returns : goal.returns
returns c = stepped-end _ _ _ c.judge_line-judged.ensures (rw (c.emptied-decoder.ensures, c.counted-decoder.ensures) refl) refl
