-- `TableTx::pending` meets its contract. Assumes nothing.
use Rattle.modulation.specs.TableTxRep.{table_of}
use Rattle.modulation.proofs.Calls.{bits-wait}
use Rattle.modulation.proofs.table_tx.TableTx.pending.Goals as goal

pub returns : goal.returns
unfolding table_of
returns c = bits-wait _ _ _
