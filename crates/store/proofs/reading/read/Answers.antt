-- What the pass over the store found. Assumes nothing.
use Rattle.std.specs.Prelude.{Some, None}
use mathlib.Core.Path.{sym}
use lib.Seq.{length-take-le}
use Rattle.store.proofs.Passing.{read_is}
use Rattle.store.proofs.reading.read.Goals as goal

pub slice_bounds-pass_all-end : goal.slice_bounds-pass_all-end
slice_bounds-pass_all-end c = sym (length-take-le _ _ c.store_len-n.ensures.0)

pub returns-in-None : goal.returns-in-None
returns-in-None c =
    let p = c.pass_all-f in
    let n = c.store_len-n in
    read_is _ _ p.result.latest p.result.unknown n.ensures.1 p.ensures.0 p.ensures.1 None c.in-None.is

pub returns-in-Some : goal.returns-in-Some
returns-in-Some c =
    let p = c.pass_all-f in
    let n = c.store_len-n in
    read_is _ _ p.result.latest p.result.unknown n.ensures.1 p.ensures.0 p.ensures.1 (Some c.in-Some.settings) c.in-Some.is
