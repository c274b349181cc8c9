-- The test picks the case. Assumes nothing.
use borrow.Author.Tests.{eq-eqb, ne_eqb}
use native.Mathlib.Omega.{arith}
use mathlib.Core.Path.{refl}
use lib.ListN.{length-set}
use Rattle.listen_app.specs.BlockReader.{with_sample}
use Rattle.listen_app.proofs.block_reader.Filling.with_sample.Goals as goal

pub returns-then-n-eq-BLOCK : goal.returns-then-n-eq-BLOCK
unfolding with_sample
returns-then-n-eq-BLOCK c = record { same = λ v w. rw (eq-eqb _ _ c.if-n-eq-BLOCK.true) refl; sound = record { room = simp length-set c.requires.room; few = omega arith } }

pub returns : goal.returns
unfolding with_sample
returns c =
    let p = c.requires in
    let t = c.if-n-eq-BLOCK.false in
    record { same = λ v w. rw (ne_eqb _ _ t) refl; sound = record { room = simp length-set p.room; few = omega (arith, p.few) } }
