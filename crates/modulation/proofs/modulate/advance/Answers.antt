-- `tx::advance` meets its contract: the symbol clock's test is the definition's. Assumes nothing.
use Rattle.modulation.proofs.Tones.{after-symbol, after_on}
use Rattle.modulation.proofs.modulate.advance.Goals as goal

pub returns-then-pos-clause-result_value : goal.returns-then-pos-clause-result_value
returns-then-pos-clause-result_value c = after-symbol c.args.t _ _ _ c.turn.ensures c.samples_per_symbol.ensures _ c.if-pos.true c.next_symbol.ensures.result_value

pub returns-clause-result_value : goal.returns-clause-result_value
returns-clause-result_value c = after_on c.args.t _ _ _ c.turn.ensures c.samples_per_symbol.ensures c.if-pos.false
