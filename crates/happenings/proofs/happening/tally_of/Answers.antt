-- From place i on the codes have what is left to count. Assumes nothing.
use mathlib.Core.Path.{◌∙◌, ap}
use Rattle.happenings.specs.Happening.{bad_stop_of, bad_stops_in}
use Rattle.happenings.proofs.Counting.{going_on, going_end, bytes_count, bads-count}
use Rattle.happenings.proofs.happening.tally_of.Invariants.{each, all}
use Rattle.happenings.proofs.happening.tally_of.Goals as goal

pub loop-code-preserved : goal.loop-code-preserved
loop-code-preserved c = (
  (going_on each all _ bytes_count _ _ _ c.loop-code-test.true (c.one_byte-bytes.ensures ∙ ap each c.happening_of-h.ensures) c.loop-code.invariant.0).1,
  (going_on bad_stop_of bad_stops_in _ bads-count _ _ _ c.loop-code-test.true (c.one_bad_stop-bad_stops.ensures ∙ ap bad_stop_of c.happening_of-h.ensures) c.loop-code.invariant.1).1,
)

pub returns : goal.returns
returns c =
    record {
      bytes = going_end each all _ bytes_count _ _ c.loop-code-test.false c.loop-code.invariant.0;
      bad_stops = going_end bad_stop_of bad_stops_in _ bads-count _ _ c.loop-code-test.false c.loop-code.invariant.1;
    }
