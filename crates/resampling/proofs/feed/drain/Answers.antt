-- `feed::drain` meets its contract. The invariant: what is left to drain from where the loop stands is what was to drain at its start. Assumes nothing.
use mathlib.Core.Path.{sym, ◌∙◌}
use lib.ListN.{length-set}
use Rattle.resampling.proofs.Running.{drain-turn, drain-full, drain_rest}
use Rattle.resampling.specs.Flow.{wants}
use Rattle.resampling.specs.FlowRep.{flow_of}
use Rattle.resampling.proofs.feed.drain.Goals as goal

pub returns-then-at-output-clause-all_drained : goal.returns-then-at-output-clause-all_drained
returns-then-at-output-clause-all_drained c =
    λ n taps ring. sym (drain-full _ _ _ _ c.if-at-output.true) ∙ c.loop-moving.invariant.0 n taps ring

pub loop-moving-preserved : goal.loop-moving-preserved
unfolding wants flow_of
loop-moving-preserved c =
    let l = c.loop-moving in
    let e = c.emit-e in (
      λ n taps ring. sym (drain-turn _ _ _ _ _ _ c.loop-moving-test.true c.if-at-output.false (e.ensures.one_emitted n taps ring)) ∙ l.invariant.0 n taps ring,
      e.ensures.fir_pos_value ∙ l.invariant.1,
      simp length-set l.invariant.2,
    )

pub returns-clause-all_drained : goal.returns-clause-all_drained
unfolding wants flow_of
returns-clause-all_drained c =
    λ n taps ring. sym (drain_rest _ _ _ _ c.loop-moving-test.false) ∙ c.loop-moving.invariant.0 n taps ring
