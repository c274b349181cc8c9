-- The store of one more, where the counts have held so far. Assumes nothing.
use mathlib.Core.Path.{sym, ap, ◌∙◌}
use lib.Seq.{set_out}
use native.Mathlib.Omega.{arith}
use Rattle.tide.specs.Decoder.{bump}
use Rattle.tide.specs.Held.{held}
use Rattle.tide.proofs.Stores.{held-set, place_some, place_none}
use Rattle.tide.proofs.decoder.counted.Goals as goal

pub returns-in-Some : goal.returns-in-Some
unfolding bump
returns-in-Some c = rw (c.saturating_add.ensures, (place_some _ _ c.in-Some.ensures).0) (held-set _ _ c.requires.1)

pub returns-in_default : goal.returns-in_default
unfolding bump
returns-in_default c =
    let out = place_none _ c.in_default.ensures in
    sym (ap held (set_out c.args.counts _ _ (omega (arith, out, c.requires.0))) ∙ c.requires.1)
