-- `TableTx::new` meets its contract. Assumes nothing.
use Rattle.modulation.specs.Bits.{queued}
use Rattle.modulation.specs.TableTxRep.{table_of}
use Rattle.modulation.proofs.TableSteps.{hops-held}
use Rattle.modulation.proofs.table_tx.TableTx.new.Goals as goal

pub invariant_of-result-clause-hops_held : goal.invariant_of-result-clause-hops_held
invariant_of-result-clause-hops_held c = rw c.hops_of-hops.ensures (hops-held c.args.role)

pub returns : goal.returns
unfolding table_of queued
returns c = rw c.hops_of-hops.ensures
