use Rattle.std.proofs.Common.{◌≡◌, ◌-◌, min, length, sym, ◌∙◌, arith}
use Rattle.send_app.proofs.Asking.{part-is, part_length}
use Rattle.send_app.proofs.AskingTable.{table-yes, table-no}
use Rattle.send_app.proofs.gauge.queue_table.Goals as goal

pub returns-then-is_ok-clause-at_value : goal.returns-then-is_ok-clause-at_value
returns-then-is_ok-clause-at_value c =
    let at = c.args.s.at in
    let text = c.args.text.now in
    let k : c.end_of-end.result - at ≡ min 64 (length text - at) = omega (arith, c.end_of-end.ensures.0) in
    table-yes _ c.write-q.result.answer text _ at (part-is text at _ k) c.write-q.ensures.state_value _ (omega (arith, part_length text at _ k, c.end_of-end.ensures.0)) (sym c.is_ok.ensures.value ∙ c.if-is_ok.true)

pub returns-clause-at_value : goal.returns-clause-at_value
returns-clause-at_value c =
    let at = c.args.s.at in
    let text = c.args.text.now in
    let k : c.end_of-end.result - at ≡ min 64 (length text - at) = omega (arith, c.end_of-end.ensures.0) in
    table-no _ c.write-q.result.answer text _ at (part-is text at _ k) c.write-q.ensures.state_value (sym c.is_ok.ensures.value ∙ c.if-is_ok.false)
