-- `table_tx::hops_of` meets its contract: a fifth of each tone. Assumes nothing.
use mathlib.Core.Path.{refl}
use Rattle.modulation.specs.TableTx.{hops_of}
use Rattle.modulation.proofs.table_tx.hops_of.Goals as goal

pub returns-in-Originate : goal.returns-in-Originate
unfolding hops_of
returns-in-Originate c = rw c.in-Originate.is refl

pub returns-in-Answer : goal.returns-in-Answer
unfolding hops_of
returns-in-Answer c = rw c.in-Answer.is refl
