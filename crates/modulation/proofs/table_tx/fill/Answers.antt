-- `table_tx::fill` meets its contract: each turn stores one sample more. Assumes nothing.
use Prim.Native.Nat.{◌+◌, ◌-◌, ◌≤◌}
use Rattle.modulation.specs.TableTx.{begins_at}
use mathlib.Core.Path.{refl, ◌∙◌}
use mathlib.Core.List.{[]}
use native.Mathlib.Omega.{arith}
use lib.ListN.{length, length-set}
use Rattle.modulation.proofs.TableSteps.{one_on, sent-start, sent-turn, sent-done}
use Rattle.modulation.proofs.TableLaws.{stays}
use Rattle.modulation.proofs.TableRuns.{run-keyed, run-sent}
use mir.Syntax.{w32}
use mir.Val.{to_z, of_z}
use Rattle.modulation.proofs.table_tx.fill.Goals as goal

pub loop-i-init : goal.loop-i-init
loop-i-init c = (omega arith, refl, c.requires.0, omega (arith, c.requires.2), sent-start _ _ [] _)

pub entry-value-requires : goal.entry-value-requires
entry-value-requires c = (c.whole_turn-turn.ensures, c.loop-i.invariant.2.at)

pub offset_bounds-out-i : goal.offset_bounds-out-i
offset_bounds-out-i c = omega arith

pub step-s-requires : goal.step-s-requires
step-s-requires c = (c.loop-i.invariant.2, c.requires.1, omega (arith, c.loop-i.invariant.3))

pub overflow_add-i : goal.overflow_add-i
overflow_add-i c = omega arith

pub loop-i-smaller : goal.loop-i-smaller
loop-i-smaller c = omega arith

pub loop-i-preserved : goal.loop-i-preserved
loop-i-preserved c =
    let l = c.loop-i in
    let t = c.step-s.ensures in
    let o = c.hold_tone-place.ensures in
    let v = stays _ _ l.invariant.2.at c.entry-value.ensures in
    let g = length-set l.out l.i (to_z w32 (of_z w32 c.entry-value.result)) in
    let s = one_on _ _ _ _ t.0 in
    let d : c.min-n.result ≤ begins_at c.step-s.result.symbols - c.step-s.result.samples = omega (arith, c.min-n.ensures, c.symbol_rest-rest.ensures.0) in
    let b : l.i + 1 + c.min-n.result ≤ length c.args.out.now = omega (arith, c.min-n.ensures, g, l.invariant.1) in (
      b,
      omega (arith, o.long, g, l.invariant.1),
      run-keyed _ _ _ _ t.1 d o.at (omega (arith, s, l.invariant.3, b)),
      omega (arith, s, l.invariant.3, b),
      run-sent _ _ _ _ t.1 d _ _ _ _ _ _ c.hop_of.ensures o b
          ∙ sent-turn _ _ _ _ _ _ _ (omega arith) (omega arith) v t.0 ∙ l.invariant.4,
    )

pub shape_of-out : goal.shape_of-out
shape_of-out c = c.loop-i.invariant.1

pub returns : goal.returns
returns c = record { result_after = sent-done _ _ _ _ _ c.loop-i.invariant.1 c.loop-i-test.false ∙ c.loop-i.invariant.4; keyed = c.loop-i.invariant.2 }
