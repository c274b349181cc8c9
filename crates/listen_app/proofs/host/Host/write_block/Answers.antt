-- The number says whether the block is to be heard in eights. Assumes nothing.
use Rattle.listen_app.proofs.Hosting.{block-eights, block-whole, hosts-as}
use Rattle.listen_app.proofs.host.Host.write_block.Goals as goal

pub returns-then-a-eq4 : goal.returns-then-a-eq4
returns-then-a-eq4 c = hosts-as (block-eights _ _ _ c.write-a.ensures.number c.if-a-eq4.true) c.write_eights.ensures

pub returns : goal.returns
returns c = hosts-as (block-whole _ _ _ c.write-a.ensures.number c.if-a-eq4.false) c.with_room.ensures
