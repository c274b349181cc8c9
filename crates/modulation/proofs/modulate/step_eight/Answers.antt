-- `tx::step_eight` meets its contract. Assumes nothing.
use Rattle.modulation.proofs.Tones.{once, then, then-none}
use Rattle.modulation.proofs.modulate.step_eight.Goals as goal

pub returns-clause-wave_value : goal.returns-clause-wave_value
returns-clause-wave_value c =
    let v = c.sines_eight-v.ensures in
    let t = c.args.t in
    then 7 t _ _ _ _ _ (once _ _ _ _ c.advance-one.ensures.result_value v.0.first) (
    then 6 t _ _ _ _ _ (once _ _ _ _ c.advance-two.ensures.result_value v.0.second) (
    then 5 t _ _ _ _ _ (once _ _ _ _ c.advance-three.ensures.result_value v.0.third) (
    then 4 t _ _ _ _ _ (once _ _ _ _ c.advance-four.ensures.result_value v.0.fourth) (
    then 3 t _ _ _ _ _ (once _ _ _ _ c.advance-five.ensures.result_value v.1.first) (
    then 2 t _ _ _ _ _ (once _ _ _ _ c.advance-six.ensures.result_value v.1.second) (
    then 1 t _ _ _ _ _ (once _ _ _ _ c.advance-seven.ensures.result_value v.1.third) (
    then 0 t _ _ _ _ _ (once _ _ _ _ c.advance-eight.ensures.result_value v.1.fourth) (
    then-none t _))))))))
