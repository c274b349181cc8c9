-- A buffer below 256 bytes is the store whole. Assumes nothing.
use Rattle.store.proofs.Passing.{store-cut}
use Rattle.store.proofs.reading.store_len.Goals as goal

pub returns : goal.returns
returns c = store-cut _ _ c.min.ensures
