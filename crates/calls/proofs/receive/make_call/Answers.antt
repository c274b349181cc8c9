-- `receive::make_call` meets its contract: what the write, the read and the taking of events ensure, one after the other. Assumes nothing.
use Rattle.calls.proofs.ReceiverCalls.{calls_is}
use Rattle.calls.proofs.Steps.{byte-bit}
use Rattle.calls.specs.Answers.{bit}
use mathlib.Core.Path.{refl, ap, ◌∙◌}
use Rattle.calls.proofs.receive.make_call.Goals as goal

pub returns : goal.returns
returns c =
    let w = c.write-w.ensures in
    let a = c.numbers_of-numbers.ensures in
    let d = c.read-d.ensures in
    let t = c.take_events-t.ensures in
    calls_is c.args.rx _ _ _ _ _ w _ _ _ d _ _ _ t _ a.0 refl refl (c.from.ensures ∙ byte-bit _ ∙ ap bit c.carrier_detected.ensures) c.framing_errors.ensures a.1
