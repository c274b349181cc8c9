-- `Tx::fill_equal` meets its contract: what `fill_places` says of each sender at 8,000 with these parts. Assumes nothing.
use mathlib.Core.Path.{refl}
use Rattle.modulation.specs.TxRep.{modulator_of}
use Rattle.modulation.proofs.Filling.{fills-whole}
use Rattle.modulation.proofs.tx.Tx.fill_equal.Goals as goal

pub invariant_of-self-clause-held : goal.invariant_of-self-clause-held
invariant_of-self-clause-held c = (c.fill_places-f.ensures.whole c.args.self refl c.requires.0).held

pub invariant_of-self-clause-pending_held : goal.invariant_of-self-clause-pending_held
invariant_of-self-clause-pending_held c = (c.fill_places-f.ensures.whole c.args.self refl c.requires.0).pending_held

pub invariant_of-self-clause-fed : goal.invariant_of-self-clause-fed
invariant_of-self-clause-fed c = rw c.fill_places-f.auto.out (c.fill_places-f.ensures.whole c.args.self refl c.requires.0).fed

pub returns : goal.returns
unfolding modulator_of
returns c = fills-whole _ (c.fill_places-f.ensures.whole c.args.self refl c.requires.0) c.fill_places-f.auto.out refl refl
