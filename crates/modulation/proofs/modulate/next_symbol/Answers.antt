-- `tx::next_symbol` meets its contract: by those of the bit queue and the oscillator. Assumes nothing.
use Rattle.modulation.proofs.Tones.{keyed-is}
use Rattle.modulation.proofs.modulate.next_symbol.Goals as goal

pub returns-clause-result_value : goal.returns-clause-result_value
returns-clause-result_value c = keyed-is _ _ _ _ _ _ _ _ _ c.take_bit-next.ensures c.tone_of-freq.ensures c.set_freq-tuned.ensures
