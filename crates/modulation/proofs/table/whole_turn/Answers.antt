-- `table::whole_turn` meets its contract: the table passed its test. Assumes nothing.
use mathlib.Core.Path.{refl}
use Rattle.modulation.proofs.TableList.{table}
use Rattle.modulation.proofs.TableLaws.{table_is}
use Rattle.modulation.proofs.table.whole_turn.Goals as goal

pub returns : goal.returns
unfolding table
returns c = record { long = refl; is = table_is }
