-- `state::put_rings` meets its contract: the parts, one behind the other. Assumes nothing.
use Rattle.snapshot.proofs.StateCalls.{rings-put}
use Rattle.snapshot.proofs.state.put_rings.Goals as goal

pub returns : goal.returns
returns c =
    rings-put c.args.d _ _ _ _ _ _ _ _ _ c.core-core.ensures c.rings-rings.ensures c.place_numbers-place.ensures c.put.ensures c.put_ring.ensures c.put_ring-2.ensures c.put_ring-3.ensures c.put_ring-4.ensures
