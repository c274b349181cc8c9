-- `feed::interpolate_all` meets its contract. The invariant: from the samples so far, once they pass the filter, the rest of the input does what the whole does from the start. Assumes nothing.
use Prim.Native.Nat.{◌<◌, ◌≤◌}
use mathlib.Core.Path.{refl, sym, ◌∙◌}
use mathlib.Core.List.{[]}
use native.Mathlib.Omega.{arith}
use lib.ListN.{length, take}
use Rattle.resampling.proofs.Running.{fed-turn, fed-halt, fed-done, drained-from, drain-within}
use Rattle.resampling.proofs.Rising.{interpolated-turn}
use Rattle.resampling.specs.Flow.{wants}
use Rattle.resampling.specs.FlowRep.{flow_of, through_filter}
use Rattle.resampling.specs.Filter.{filtered_all, history_after}
use borrow.Author.Rules.{rules}
use Rattle.resampling.proofs.feed.interpolate_all.Goals as goal

pub loop-x-init : goal.loop-x-init
unfolding through_filter filtered_all history_after flow_of
loop-x-init c = (λ n taps ring. refl, refl, omega arith)

pub returns-then-moving : goal.returns-then-moving
unfolding wants flow_of through_filter
returns-then-moving c =
    let l = c.loop-x in
    let s = c.slide.ensures in
    let d = c.drain-d.ensures in
    let t : l.x-index < length c.args.input.now = omega arith in record {
      all_interpolated = λ n taps ring.
          let e = interpolated-turn (take n taps) _ _ _ _ _ l.invariant.2 _ _ (flow_of n ring l.moving) _ (s.by_index n ring) (d.all_drained n taps ring) in
          sym (fed-halt _ _ _ _ _ _ _ t (drained-from _ _ _ _ _ _ _ refl e) c.if-moving.true) ∙ l.invariant.0 n taps ring;
      at_in_bounds = drain-within _ _ _ _ _ (d.all_drained 0 [] []) l.invariant.2;
    }

pub loop-x-preserved : goal.loop-x-preserved
unfolding wants flow_of through_filter
loop-x-preserved c =
    let l = c.loop-x in
    let s = c.slide.ensures in
    let d = c.drain-d.ensures in
    let t : l.x-index < length c.args.input.now = omega arith in (
      λ n taps ring.
          let e = interpolated-turn (take n taps) _ _ _ _ _ l.invariant.2 _ _ (flow_of n ring l.moving) _ (s.by_index n ring) (d.all_drained n taps ring) in
          sym (fed-turn _ _ _ _ _ _ _ t (drained-from _ _ _ _ _ _ _ refl e) c.if-moving.false) ∙ l.invariant.0 n taps ring,
      search rules,
      drain-within _ _ _ _ _ (d.all_drained 0 [] []) l.invariant.2,
    )

pub returns-clause-all_interpolated : goal.returns-clause-all_interpolated
unfolding through_filter
returns-clause-all_interpolated c =
    let e : length c.args.input.now ≤ c.loop-x.x-index = omega arith in
    λ n taps ring. sym (fed-done _ _ _ _ _ _ e) ∙ c.loop-x.invariant.0 n taps ring
