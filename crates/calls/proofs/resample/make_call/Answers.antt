-- `resample::make_call` meets its contract, by the kind. Assumes nothing.
use borrow.Author.Tests.{eq-eqb, ne_eqb}
use Rattle.calls.proofs.resample.make_call.Goals as goal

pub returns-then-kind-eq-PROCESS : goal.returns-then-kind-eq-PROCESS
returns-then-kind-eq-PROCESS c = record { output_after = rw (eq-eqb _ _ c.if-kind-eq-PROCESS.true) c.process.ensures.output_after }

pub returns : goal.returns
returns c = record { output_after = rw (ne_eqb _ _ c.if-kind-eq-PROCESS.false, c.reset.ensures.result_value) }
