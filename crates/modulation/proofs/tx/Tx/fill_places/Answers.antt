-- `tx::fill_places` meets its contract: what is pending, then one pass at equal rates. Assumes nothing.
use Rattle.modulation.proofs.Equal.{places-first, places-both}
use Rattle.modulation.proofs.Slices.{lent_length, rest-length}
use Rattle.modulation.specs.TxRep.{parts_for}
use Prim.Native.Nat.{◌<◌}
use lib.ListN.{length}
use mathlib.Core.Path.{◌∙◌}
use native.Mathlib.Omega.{arith}
use Rattle.modulation.proofs.tx.Tx.fill_places.Goals as goal

pub returns-then-n-written : goal.returns-then-n-written
returns-then-n-written c =
    let a = c.args in
    let h = c.hand_over-written.ensures in
    places-first (parts_for a.bits.now a.tones a.w a.a a.pending.now a.from a.upto) _ _ _ h h.places c.if-n-written.true

pub returns : goal.returns
returns c =
    let a = c.args in
    let h = c.hand_over-written in
    let p = c.equal_pass-last in
    let L = length a.out.now in
    let out = h.new.out in
    let rest = p.new.rest in
    let n = lent_length out h.result L h.ensures.places in
    let k = c.out-2-1.given.1 ∙ h.ensures.places in
    let less : h.result < L = omega (arith, c.if-n-written.false) in
    places-both (parts_for a.bits.now a.tones a.w a.a a.pending.now a.from a.upto) L h.result out h.ensures h.ensures.places rest _ _ _
    less (rest-length out rest h.result L h.ensures.places (omega (arith, less)) k) k (rw n at p.ensures)
